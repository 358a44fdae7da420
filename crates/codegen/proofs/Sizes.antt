-- What is known of a program that is not refused: its frames, its data and its code are not too big.
use Rattle.std.proofs.Common.{◌≡◌, ℕ, zero, suc, ◌+◌, ◌-◌, ◌*◌, ◌<◌, ◌≤◌, refl, ap, ◌∙◌, subst, arith, Bool, true, false, List, [], ◌∷◌, length, Option, Some, None, if◌then◌else◌}
use Rattle.std.proofs.lemmas.Bool.Decides.{nat_tests}
use Rattle.std.proofs.lemmas.Option.{slice_get-map}
use Rattle.std.specs.Prelude.{slice_get, nat_lt, option_map}
use Rattle.base16.specs.Board.{most_frame_bytes, data_start, data_end, code_start, code_end}
use Rattle.core_tree.specs.Costs.{code_cost}
use Rattle.core_tree.specs.Data.{global_address, global_layout, global_layouts, stamp_address, stamps_start, stamps_of, data_bytes, told_address}
use Rattle.core_tree.specs.Heights.{frame_bytes}
use Rattle.core_tree.specs.declared.program.Core.{Core}
use Rattle.core_tree.specs.declared.program.Function.{Function}
use Rattle.core_tree.specs.declared.program.Global.{Global}
use Rattle.core_tree.specs.declared.types.Struct.{Struct}
use Rattle.ir.specs.declared.form.Ir.{Ir}
use Rattle.ir.specs.declared.form.IrGlobal.{IrGlobal}
use Rattle.ir_gen.specs.Form.{globals_from}
use Rattle.select430.specs.Frames.{address_or}
use Rattle.codegen.specs.declared.errors.GenErr.TheVariants.{FrameTooBig, DataTooBig, CodeTooBig}
use Rattle.codegen.specs.Refused.{big_frame, start_bytes, refused_by, refusal_of}
use Rattle.codegen.proofs.Frames.{row_ends}
use Rattle.codegen.proofs.Lists.{same_some, none_some, some_none, some_at}

not_above : (a b : ℕ) → nat_lt a b ≡ false → b ≤ a
not_above a b e = grind (arith, nat_tests)

frames_small : (structs : List Struct) (n : ℕ) (xs : List Function) → big_frame structs n xs ≡ None
    → (i : ℕ) (x : Function) → slice_get xs i ≡ Some x → frame_bytes structs x ≤ 240
frames_small structs n [] e i x k = absurd (none_some x k)
frames_small structs n (y ∷ ys) e i x k =
    from (nat_lt most_frame_bytes (frame_bytes structs y)) refl (λ h j. frames_small structs (suc n) ys h j x) e i k
  where
    from : (t : Bool) → nat_lt most_frame_bytes (frame_bytes structs y) ≡ t
        → (big_frame structs (suc n) ys ≡ None → (j : ℕ) → slice_get ys j ≡ Some x → frame_bytes structs x ≤ 240)
        → (if t then Some n else big_frame structs (suc n) ys) ≡ None → (j : ℕ) → slice_get (y ∷ ys) j ≡ Some x
        → frame_bytes structs x ≤ 240
    from true s more h j l = absurd (some_none n h)
    from false s more h zero l =
        let same : y ≡ x = same_some y x l in
        subst (λ (z : Function). frame_bytes structs z ≤ 240) same (not_above most_frame_bytes (frame_bytes structs y) s)
    from false s more h (suc j) l = more h j l

pub record AreSmall (core : Core) : Type 0 where
  pub frames : (g : ℕ) (x : Function) → slice_get core.functions g ≡ Some x → frame_bytes core.structs x ≤ 240
  pub variables : data_bytes core ≤ 16384
  pub code : code_cost core + 1024 ≤ 28672

pub all_small : (core : Core) → refusal_of core ≡ None → AreSmall core
all_small core e = from (big_frame core.structs 0 core.functions) refl e
  where
    codes : (t : Bool) → nat_lt (code_end - code_start) (code_cost core + start_bytes) ≡ t
        → (if t then Some CodeTooBig else None) ≡ None → code_cost core + 1024 ≤ 28672
    codes true s h = absurd (some_none CodeTooBig h)
    codes false s h = not_above (code_end - code_start) (code_cost core + start_bytes) s

    datas : (t : Bool) → nat_lt (data_end - data_start) (data_bytes core) ≡ t
        → (if t then Some DataTooBig
        else (if nat_lt (code_end - code_start) (code_cost core + start_bytes) then Some CodeTooBig else None)) ≡ None
        → (data_bytes core ≤ 16384) × (code_cost core + 1024 ≤ 28672)
    datas true s h = absurd (some_none DataTooBig h)
    datas false s h = (
      not_above (data_end - data_start) (data_bytes core) s,
      codes (nat_lt (code_end - code_start) (code_cost core + start_bytes)) refl h,
    )

    from : (o : Option ℕ) → big_frame core.structs 0 core.functions ≡ o → refused_by o core ≡ None → AreSmall core
    from (Some n) s h = absurd (some_none (FrameTooBig n) h)
    from None s h =
        let two = datas (nat_lt (data_end - data_start) (data_bytes core)) refl h in
        record { frames = frames_small core.structs 0 core.functions s; variables = two.0; code = two.1 }

-- ---- the data

pub data_ends : (core : Core) → data_bytes core ≤ 16384 → stamps_start core + 4 * stamps_of core core.globals ≤ data_end
unfolding data_bytes stamp_address
data_ends core l = omega arith

pub global_below : (core : Core) (n : ℕ) → n < length core.globals → global_address core n ≤ stamps_start core
unfolding global_address
global_below core n l =
    let gs : List Global = core.globals in
    let x = some_at gs n l in
    let g : Global = x.0 in
    let is : slice_get gs n ≡ Some g = x.1 in
    let end = row_ends (global_layouts core gs) n (global_layout core g)
    (slice_get-map (global_layout core) gs n ∙ ap (option_map (global_layout core)) is) in
    omega arith

variable_at : (core : Core) (k i : ℕ) (gs : List Global) → i < length gs
    → address_or (slice_get (globals_from core k gs) i) ≡ told_address (global_address core (k + i))
variable_at core k i [] l = absurd (omega arith)
variable_at core k zero (g ∷ gs) l =
    ap (λ (n : ℕ). told_address (global_address core n)) (let z : k ≡ k + 0 = omega arith in z)
variable_at core k (suc i) (g ∷ gs) l =
    let long : length (g ∷ gs) ≡ suc (length gs) = refl in
    variable_at core (k + 1) i gs (omega arith)
    ∙ ap (λ (n : ℕ). told_address (global_address core n)) (let z : k + 1 + i ≡ k + suc i = omega arith in z)

-- variables have in the form the addresses that they have in the program
pub variables_stand : (core : Core) (ir : Ir) → ir.globals ≡ globals_from core 0 core.globals → data_bytes core ≤ 16384
    → (n : ℕ) → n < length core.globals → address_or (slice_get ir.globals n) ≡ global_address core n
variables_stand core ir e small n l =
    let below = global_below core n l in
    let last = data_ends core small in
    let plain : global_address core (0 + n) ≡ global_address core n = ap (global_address core)
    (let z : 0 + n ≡ n = omega arith in z) in
    let whole : told_address (global_address core n) ≡ global_address core n = omega arith in
    ap (λ (gs : List IrGlobal). address_or (slice_get gs n)) e ∙ variable_at core 0 n core.globals l
    ∙ ap told_address plain ∙ whole
