-- By induction over the tree: the steps of each expression and place do what these mean.
use Rattle.std.proofs.Common.{◌≡◌, ℕ, ◌+◌, List, [], ◌∷◌, length, map, Option, Some, None, Bool, true, false, ◌&&◌, ◌||◌, refl, sym, ap, ◌∙◌, subst, arith, rules}
use Rattle.std.specs.Prelude.{slice_get, pos}
use Rattle.base16.specs.declared.reading.Reading.{Reading}
use Rattle.core_tree.specs.Layout.{kind_of, int_type_of, target_of, is_pointer, stride, member_stride}
use Rattle.core_tree.specs.declared.types.Ty.{Ty}
use Rattle.core_tree.specs.declared.types.Struct.{Struct}
use Rattle.core_tree.specs.declared.expressions.ExprKind.{ExprKind, ind-ExprKind, the_lemmas, roll-ExprKind, map-ExprKind}
use Rattle.core_tree.specs.declared.expressions.ExprKind.TheOpen.{ExprKind-F, PlaceKind-F}
use Rattle.core_tree.specs.declared.expressions.PlaceKind.{PlaceKind, roll-PlaceKind, map-PlaceKind}
use Rattle.core_tree.specs.declared.expressions.Expr.{Expr}
use Rattle.core_tree.specs.declared.expressions.Place.{Place}
use Rattle.c_values.specs.declared.value.Value.{Value}
use Rattle.c_values.specs.declared.value.Value.TheVariants.{Undefined}
use Rattle.c_values.specs.declared.value.Location.{Location}
use Rattle.c_values.specs.Pointers.{at, pointed, member_at, element, sum_of, address}
use Rattle.c_values.specs.Values.{numbered, operated_one, converted}
use Rattle.c_run.specs.Runs.{Action, pure, ◌>>=◌, ◌>>◌, given, asked, mark}
use Rattle.c_run.specs.Actions.{load, emit, sense}
use Rattle.c_meaning.specs.Meaning as mean
use Rattle.c_meaning.specs.Meaning.{Meant}
use Rattle.ir.specs.declared.form.Ir.{Ir}
use Rattle.ir.specs.declared.form.IrFunction.{IrFunction}
use Rattle.ir.specs.declared.form.Base.TheVariants as base
use Rattle.ir.specs.declared.form.Operand.TheVariants as operand
use Rattle.ir.specs.declared.form.Operation.{Operation}
use Rattle.ir.specs.declared.form.Operation.TheVariants as operation
use Rattle.ir.specs.declared.form.StepKind.TheVariants as step
use Rattle.ir.specs.declared.control.Frame.{Frame}
use Rattle.ir.specs.declared.control.Temporary.{Temporary}
use Rattle.ir.specs.Machine as m
use Rattle.ir.proofs.Leading.{at_depth_is}
use Rattle.ir_gen.specs.Code as c
use Rattle.ir_gen.specs.Code.{Code, Coded, Spot, Spotted, Part, single, then_code}
use Rattle.ir_gen.specs.Built as built
use Rattle.ir_gen.specs.Built.{BuiltPlace}
use Rattle.ir_gen.proofs.Doing as d
use Rattle.ir_gen.proofs.Doing.{value, placed, one_is, two_is, place_is, element_is}
use Rattle.ir_gen.proofs.Expressions as e
use Rattle.ir_gen.proofs.Expressions.{IsPart, is_part, Served}

-- ---- the equations of the folds, all kinds at once

built_roll : (x : ExprKind-F ExprKind PlaceKind Expr Place)
    → built.expr_kind (roll-ExprKind x) ≡ built.expr_layer
    (map-ExprKind ExprKind PlaceKind Expr Place Bool BuiltPlace Bool BuiltPlace built.expr_kind built.place_kind
    (λ e. built.expr_kind e.kind) (λ p. built.place_kind p.kind) x)
built_roll x = search (rules, the_lemmas)

built_place_roll : (x : PlaceKind-F ExprKind PlaceKind Expr Place)
    → built.place_kind (roll-PlaceKind x) ≡ built.place_layer
    (map-PlaceKind ExprKind PlaceKind Expr Place Bool BuiltPlace Bool BuiltPlace built.expr_kind built.place_kind
    (λ e. built.expr_kind e.kind) (λ p. built.place_kind p.kind) x)
built_place_roll x = search (rules, the_lemmas)

pub both_left : (a b : Bool) → (a && b) ≡ true → a ≡ true
both_left true b e = refl
both_left false b e = e

pub both_right : (a b : Bool) → (a && b) ≡ true → b ≡ true
both_right true b e = e
both_right false b e = absurd (grind (arith, e))

module _ (structs : List Struct) where
  abbrev pub coded : Expr → Coded
  coded x = record { ty = x.ty; code = c.expr structs x }

  abbrev pub spotted : Place → Spotted
  spotted p = record { ty = p.ty; spot = c.place structs p }

  pub code_roll : (x : ExprKind-F ExprKind PlaceKind Expr Place)
      → c.expr_kind structs (roll-ExprKind x) ≡ c.expr_layer structs
      (map-ExprKind ExprKind PlaceKind Expr Place c.Layer c.PlaceLayer Coded Spotted (c.expr_kind structs)
      (c.place_kind structs) coded spotted x)
  code_roll x = search (rules, the_lemmas)

  pub code_place_roll : (x : PlaceKind-F ExprKind PlaceKind Expr Place)
      → c.place_kind structs (roll-PlaceKind x) ≡ c.place_layer structs
      (map-PlaceKind ExprKind PlaceKind Expr Place c.Layer c.PlaceLayer Coded Spotted (c.expr_kind structs)
      (c.place_kind structs) coded spotted x)
  code_place_roll x = search (rules, the_lemmas)

module _ (structs : List Struct) (rs : List Reading) (call : mean.Calls) (first : ℕ) where
  abbrev meant : Expr → Meant Value
  meant x = record { ty = x.ty; act = mean.expr structs rs call first x }

  abbrev meant_place : Place → Meant Location
  meant_place p = record { ty = p.ty; act = mean.place structs rs call first p }

  mean_roll : (x : ExprKind-F ExprKind PlaceKind Expr Place) → mean.expr_kind structs rs call first (roll-ExprKind x)
      ≡ mean.expr_layer structs rs call first (map-ExprKind ExprKind PlaceKind Expr Place (Ty → ℕ → Action Value)
      (Ty → ℕ → Action Location) (Meant Value) (Meant Location) (mean.expr_kind structs rs call first)
      (mean.place_kind structs rs call first) meant meant_place x)
  mean_roll x = search (rules, the_lemmas)

  mean_place_roll : (x : PlaceKind-F ExprKind PlaceKind Expr Place) → mean.place_kind structs rs call first (roll-PlaceKind x)
      ≡ mean.place_layer structs rs call first (map-PlaceKind ExprKind PlaceKind Expr Place (Ty → ℕ → Action Value)
      (Ty → ℕ → Action Location) (Meant Value) (Meant Location) (mean.expr_kind structs rs call first)
      (mean.place_kind structs rs call first) meant meant_place x)
  mean_place_roll x = search (rules, the_lemmas)

  module _ (ir : Ir) (f : ℕ) (fn : IrFunction) (is : slice_get ir.functions f ≡ Some fn) (below : List Frame)
      (served : Served ir rs call below) where
    abbrev Sim : {A : Type 0} (carry : A → Temporary) (act : Action A) (code : Code) → Type 0
    Sim = d.Sim ir rs f fn is first below

    -- a place is found, and where it is a part of a local it is known before
    record SimPlace (local : Bool) (act : Action Location) (spot : Spot) : Type 0 where
      sim : Sim placed act spot.code
      part : local ≡ true → IsPart first act spot.part

    abbrev ExprClaim : ExprKind → Type 0
    ExprClaim k = (ty : Ty) (node : ℕ) → built.expr_kind k ≡ true
        → Sim value (mean.expr_kind structs rs call first k ty node) (c.expr_kind structs k ty node)

    abbrev PlaceClaim : PlaceKind → Type 0
    PlaceClaim k = (ty : Ty) (node : ℕ) → (built.place_kind k).built ≡ true
        → SimPlace (built.place_kind k).local (mean.place_kind structs rs call first k ty node) (c.place_kind structs k ty node)

    sim_sense : (node channel : ℕ) → Sim value (sense rs channel) (single node (λ d. step.Sense d channel))
    sim_sense node channel =
        d.sim_step ir rs f fn is first below value (sense rs channel) node (λ d. step.Sense d channel)
        (λ p d ts hd. at_depth_is d ts _ hd)

    sim_checkpoint : (node : ℕ) → Sim value (mark >> pure Undefined) (single node step.Checkpoint)
    sim_checkpoint node = record {
      even = λ p d. refl;
      does = d.does_pure ir rs f fn is first below [] mark (λ u. Undefined) (λ w. value w ∷ []) (single node step.Checkpoint)
          (d.does_step ir rs f fn is first below [] mark (λ u. value Undefined ∷ []) node step.Checkpoint
          (λ p d ts hd. at_depth_is d ts _ hd));
    }

    part_of_part : (act : Action Location) (part : Option Part) (offset : ℕ) → IsPart first act part
        → IsPart first (act >>= λ l. pure (member_at l offset)) (c.part_at part offset)
    part_of_part act None offset x = elim x [ ]
    part_of_part act (Some q) offset (is_part eq) =
        is_part (ap (λ (x : Action Location). x >>= λ l. pure (member_at l offset)) eq)

    module _ {A B C D : Type 0} (fa : A → ExprKind) (fb : B → PlaceKind) (fc : C → Expr) (fd : D → Place)
        (hc : (x : C) → ExprClaim (fc x).kind) (hd : (x : D) → PlaceClaim (fd x).kind) where
      abbrev opened : ExprKind-F A B C D → ExprKind-F ExprKind PlaceKind Expr Place
      opened y = map-ExprKind A B C D ExprKind PlaceKind Expr Place fa fb fc fd y

      abbrev coded_layer : ExprKind-F A B C D → Ty → ℕ → Code
      coded_layer y = c.expr_layer structs (map-ExprKind ExprKind PlaceKind Expr Place c.Layer c.PlaceLayer Coded Spotted
          (c.expr_kind structs) (c.place_kind structs) (coded structs) (spotted structs) (opened y))

      abbrev meant_layer : ExprKind-F A B C D → Ty → ℕ → Action Value
      meant_layer y = mean.expr_layer structs rs call first
          (map-ExprKind ExprKind PlaceKind Expr Place (Ty → ℕ → Action Value) (Ty → ℕ → Action Location) (Meant Value)
          (Meant Location) (mean.expr_kind structs rs call first) (mean.place_kind structs rs call first) meant meant_place
          (opened y))

      abbrev built_layer : ExprKind-F A B C D → Bool
      built_layer y = built.expr_layer (map-ExprKind ExprKind PlaceKind Expr Place Bool BuiltPlace Bool BuiltPlace
          built.expr_kind built.place_kind (λ e. built.expr_kind e.kind) (λ p. built.place_kind p.kind) (opened y))

      args_served : (args : List C) → built.all_true (map (λ e. built.expr_kind e.kind) (map fc args)) ≡ true
          → e.SimAll ir rs f fn is first below (length (map (coded structs) (map fc args)))
          (λ found. mean.each_from found (map meant (map fc args))) (c.args_code (map (coded structs) (map fc args)))
      args_served [] fine = e.sim_none ir rs f fn is first below
      args_served (a ∷ more) fine =
          e.sim_more ir rs f fn is first below _ (mean.expr structs rs call first (fc a))
          (λ found. mean.each_from found (map meant (map fc more))) (c.expr structs (fc a))
          (c.args_code (map (coded structs) (map fc more)))
          (hc a (fc a).ty (fc a).node (both_left (built.expr_kind (fc a).kind) _ fine))
          (args_served more (both_right (built.expr_kind (fc a).kind) _ fine))

      -- an operand, and the operands of two
      of_one : (a : C) → built.expr_kind (fc a).kind ≡ true
          → Sim value (mean.expr structs rs call first (fc a)) (c.expr structs (fc a))
      of_one a fine = hc a (fc a).ty (fc a).node fine

      of_place : (p : D) → (built.place_kind (fd p).kind).built ≡ true
          → SimPlace (built.place_kind (fd p).kind).local (mean.place structs rs call first (fd p)) (c.place structs (fd p))
      of_place p fine = hd p (fd p).ty (fd p).node fine

      combined : (a b : C) (node : ℕ) (o : Operation) → (built.expr_kind (fc a).kind && built.expr_kind (fc b).kind) ≡ true
          → Sim value (mean.expr structs rs call first (fc a) >>= λ x. mean.expr structs rs call first (fc b)
          >>= λ y. asked node (λ s. m.computed s o x y)) (c.combined node o (c.expr structs (fc a)) (c.expr structs (fc b)))
      combined a b node o fine =
          d.sim_two ir rs f fn is first below value value _ _ _ _ node
          (λ d. step.Binary d o operand.Temporary operand.Temporary) (λ x y. asked node (λ s. m.computed s o x y))
          (of_one a (both_left (built.expr_kind (fc a).kind) _ fine))
          (of_one b (both_right (built.expr_kind (fc a).kind) _ fine))
          (λ x y p d ts hd. two_is node first d ts x y _ hd)

      assigned : (p : D) (a : C) (marked : Bool) (ty : Ty) (node : ℕ) → built_layer (ExprKind-F.Assign p a marked) ≡ true
          → Sim value (meant_layer (ExprKind-F.Assign p a marked) ty node) (coded_layer (ExprKind-F.Assign p a marked) ty node)
      assigned p a true ty node fine =
          let rf = both_right (built.place_kind (fd p).kind).built _ fine in
          e.sim_assign ir rs f fn is first below node (kind_of ty) _ _ _ _
          (of_place p (both_left (built.place_kind (fd p).kind).built _ fine)).sim
          (of_one a (both_left (built.expr_kind (fc a).kind) _ rf))
      assigned p a false ty node fine =
          let rf = both_right (built.place_kind (fd p).kind).built _ fine in
          e.sim_assign_local ir rs f fn is first below node (kind_of ty) _ _ (c.place structs (fd p)).part _
          ((of_place p (both_left (built.place_kind (fd p).kind).built _ fine)).part
          (both_right (built.expr_kind (fc a).kind) _ rf)) (of_one a (both_left (built.expr_kind (fc a).kind) _ rf))

      updated : (o : Operation) (p : D) (a : C) (old marked : Bool) (ty : Ty) (node : ℕ)
          → ((built.place_kind (fd p).kind).built &&
          (built.expr_kind (fc a).kind && (marked || (built.place_kind (fd p).kind).local))) ≡ true
          → Sim value (e.updating ir rs f fn is first below node (kind_of ty) o (mean.place structs rs call first (fd p))
          (mean.expr structs rs call first (fc a)) old marked)
          (c.update_code node (c.place structs (fd p)) (kind_of ty) o (c.expr structs (fc a)) old marked)
      updated o p a false true ty node fine =
          let rf = both_right (built.place_kind (fd p).kind).built _ fine in
          e.sim_update_stored ir rs f fn is first below node (kind_of ty) o _ _ _ _
          (of_place p (both_left (built.place_kind (fd p).kind).built _ fine)).sim
          (of_one a (both_left (built.expr_kind (fc a).kind) _ rf))
      updated o p a true true ty node fine =
          let rf = both_right (built.place_kind (fd p).kind).built _ fine in
          e.sim_update_before ir rs f fn is first below node (kind_of ty) o _ _ _ _
          (of_place p (both_left (built.place_kind (fd p).kind).built _ fine)).sim
          (of_one a (both_left (built.expr_kind (fc a).kind) _ rf))
      updated o p a false false ty node fine =
          let rf = both_right (built.place_kind (fd p).kind).built _ fine in
          e.sim_update_local ir rs f fn is first below node (kind_of ty) o _ _ (c.place structs (fd p)).part _ false
          ((of_place p (both_left (built.place_kind (fd p).kind).built _ fine)).part
          (both_right (built.expr_kind (fc a).kind) _ rf)) (of_one a (both_left (built.expr_kind (fc a).kind) _ rf))
      updated o p a true false ty node fine =
          let rf = both_right (built.place_kind (fd p).kind).built _ fine in
          e.sim_update_local ir rs f fn is first below node (kind_of ty) o _ _ (c.place structs (fd p)).part _ true
          ((of_place p (both_left (built.place_kind (fd p).kind).built _ fine)).part
          (both_right (built.expr_kind (fc a).kind) _ rf)) (of_one a (both_left (built.expr_kind (fc a).kind) _ rf))

      layer : (y : ExprKind-F A B C D) (ty : Ty) (node : ℕ) → built_layer y ≡ true
          → Sim value (meant_layer y ty node) (coded_layer y ty node)
      layer (ExprKind-F.Constant v) ty node fine = e.sim_constant ir rs f fn is first below node (is_pointer ty) v
      layer (ExprKind-F.Read p) ty node fine =
          d.sim_one ir rs f fn is first below placed value _ _ node (λ d. step.Load d (kind_of ty))
          (λ l. load node l (kind_of ty)) (of_place p fine).sim (λ l q d ts hd. place_is d ts l _ hd)
      layer (ExprKind-F.Convert a) ty node fine =
          d.sim_one ir rs f fn is first below value value _ _ node (λ d. step.Convert d (int_type_of ty) operand.Temporary)
          (λ v. given node (converted (int_type_of ty) v)) (of_one a fine) (λ v q d ts hd. one_is node first d ts v _ hd)
      layer (ExprKind-F.Unary o a) ty node fine =
          d.sim_one ir rs f fn is first below value value _ _ node
          (λ d. step.Unary d o (int_type_of (fc a).ty) operand.Temporary)
          (λ v. asked node (λ s. operated_one s o (int_type_of (fc a).ty) v)) (of_one a fine)
          (λ v q d ts hd. one_is node first d ts v _ hd)
      layer (ExprKind-F.Binary o t a b) ty node fine = combined a b node (operation.Integers o t (int_type_of (fc b).ty)) fine
      layer (ExprKind-F.PointerPlus minus a b) ty node fine =
          combined a b node (c.pointer_plus structs minus ty (fc a).ty (fc b).ty) fine
      layer (ExprKind-F.Difference a b) ty node fine
          = combined a b node (operation.Difference (stride structs (target_of (fc a).ty))) fine
      layer (ExprKind-F.ComparePointers o a b) ty node fine = combined a b node (operation.ComparePointers o) fine
      layer (ExprKind-F.And a b) ty node fine =
          e.sim_choice ir rs f fn is first below value _ _ _ _ _ _ node (int_type_of (fc a).ty)
          (of_one a (both_left (built.expr_kind (fc a).kind) _ fine))
          (e.sim_truth ir rs f fn is first below _ _ node (int_type_of (fc b).ty)
          (of_one b (both_right (built.expr_kind (fc a).kind) _ fine)))
          (e.sim_constant ir rs f fn is first below node false (pos 0))
      layer (ExprKind-F.Or a b) ty node fine =
          e.sim_choice ir rs f fn is first below value _ _ _ _ _ _ node (int_type_of (fc a).ty)
          (of_one a (both_left (built.expr_kind (fc a).kind) _ fine))
          (e.sim_constant ir rs f fn is first below node false (pos 1))
          (e.sim_truth ir rs f fn is first below _ _ node (int_type_of (fc b).ty)
          (of_one b (both_right (built.expr_kind (fc a).kind) _ fine)))
      layer (ExprKind-F.Conditional a b g) ty node fine =
          let rf = both_right (built.expr_kind (fc a).kind) _ fine in
          e.sim_choice ir rs f fn is first below value _ _ _ _ _ _ node (int_type_of (fc a).ty)
          (of_one a (both_left (built.expr_kind (fc a).kind) _ fine))
          (of_one b (both_left (built.expr_kind (fc b).kind) _ rf)) (of_one g (both_right (built.expr_kind (fc b).kind) _ rf))
      layer (ExprKind-F.Assign p a marked) ty node fine = assigned p a marked ty node fine
      layer (ExprKind-F.Update o None p a old marked) ty node fine
          = updated (c.update_operation o None (int_type_of (fc a).ty) (stride structs (target_of ty))) p a old marked ty node
          fine
      layer (ExprKind-F.Update o (Some t) p a old marked) ty node fine
          = updated (operation.Integers o t (int_type_of (fc a).ty)) p a old marked ty node fine
      layer (ExprKind-F.Address p) ty node fine =
          d.sim_one ir rs f fn is first below placed value _ _ node step.PointTo (λ l. asked node (λ s. address s l))
          (of_place p fine).sim (λ l q d ts hd. place_is d ts l _ hd)
      layer (ExprKind-F.Call g args) ty node fine =
          e.sim_call ir rs f fn is first below call served _ g node _ _ (args_served args fine)
      layer (ExprKind-F.Sense channel) ty node fine = sim_sense node channel
      layer (ExprKind-F.Emit a) ty node fine =
          d.sim_one ir rs f fn is first below value value _ _ node (λ d. step.Emit d operand.Temporary) (λ v. emit node v)
          (of_one a fine) (λ v q d ts hd. one_is node first d ts v _ hd)
      layer ExprKind-F.Checkpoint ty node fine = sim_checkpoint node
      layer (ExprKind-F.Comma a b) ty node fine =
          d.sim_after ir rs f fn is first below _ _ _ _ node (of_one a (both_left (built.expr_kind (fc a).kind) _ fine))
          (of_one b (both_right (built.expr_kind (fc a).kind) _ fine))

      abbrev opened_place : PlaceKind-F A B C D → PlaceKind-F ExprKind PlaceKind Expr Place
      opened_place y = map-PlaceKind A B C D ExprKind PlaceKind Expr Place fa fb fc fd y

      abbrev coded_place_layer : PlaceKind-F A B C D → Ty → ℕ → Spot
      coded_place_layer y = c.place_layer structs (map-PlaceKind ExprKind PlaceKind Expr Place c.Layer c.PlaceLayer Coded
          Spotted (c.expr_kind structs) (c.place_kind structs) (coded structs) (spotted structs) (opened_place y))

      abbrev meant_place_layer : PlaceKind-F A B C D → Ty → ℕ → Action Location
      meant_place_layer y = mean.place_layer structs rs call first
          (map-PlaceKind ExprKind PlaceKind Expr Place (Ty → ℕ → Action Value) (Ty → ℕ → Action Location) (Meant Value)
          (Meant Location) (mean.expr_kind structs rs call first) (mean.place_kind structs rs call first) meant meant_place
          (opened_place y))

      abbrev built_place_layer : PlaceKind-F A B C D → BuiltPlace
      built_place_layer y = built.place_layer (map-PlaceKind ExprKind PlaceKind Expr Place Bool BuiltPlace Bool BuiltPlace
          built.expr_kind built.place_kind (λ e. built.expr_kind e.kind) (λ p. built.place_kind p.kind) (opened_place y))

      place_layer : (y : PlaceKind-F A B C D) (ty : Ty) (node : ℕ) → (built_place_layer y).built ≡ true
          → SimPlace (built_place_layer y).local (meant_place_layer y ty node) (coded_place_layer y ty node)
      place_layer (PlaceKind-F.Local n) ty node fine = record {
        sim = d.sim_step ir rs f fn is first below placed (pure (at (first + n) 0)) node (λ d. step.Address d (base.Local n) 0)
            (λ p d ts hd. at_depth_is d ts _ hd);
        part = λ local. is_part refl;
      }
      place_layer (PlaceKind-F.Global n) ty node fine = record {
        sim = d.sim_step ir rs f fn is first below placed (pure (at n 0)) node (λ d. step.Address d (base.Global n) 0)
            (λ p d ts hd. at_depth_is d ts _ hd);
        part = λ local. absurd (grind (arith, local));
      }
      place_layer (PlaceKind-F.Deref a) ty node fine = record {
        sim = d.sim_one ir rs f fn is first below value placed _ _ node (λ d. step.Follow d operand.Temporary)
            (λ v. given node (pointed v)) (of_one a fine) (λ v q d ts hd. one_is node first d ts v _ hd);
        part = λ local. absurd (grind (arith, local));
      }
      place_layer (PlaceKind-F.Member p tag member) ty node fine =
          let h = of_place p fine in
          record {
            sim = d.sim_one ir rs f fn is first below placed placed _ _ node
                (λ d. step.Member d (member_stride structs tag member))
                (λ l. pure (member_at l (member_stride structs tag member))) h.sim (λ l q d ts hd. place_is d ts l _ hd);
            part = λ local. part_of_part _ _ (member_stride structs tag member) (h.part local);
          }
      place_layer (PlaceKind-F.Element p a) ty node fine = record {
        sim = d.sim_two ir rs f fn is first below placed placed _ _ _ _ node
            (λ d. step.Element d (stride structs ty) (int_type_of (fc a).ty) operand.Temporary)
            (λ l i. asked node (λ s. element s (stride structs ty) l (numbered (int_type_of (fc a).ty) i)))
            (of_place p (both_left (built.place_kind (fd p).kind).built _ fine)).sim
            (of_one a (both_right (built.place_kind (fd p).kind).built _ fine))
            (λ l v q d ts hd. element_is node first d ts l v _ hd);
        part = λ local. absurd (grind (arith, local));
      }
      place_layer (PlaceKind-F.At a b) ty node fine = record {
        sim = d.sim_two ir rs f fn is first below value placed _ _ _ _ node
            (λ d. step.Sum d (stride structs ty) (int_type_of (fc a).ty) (int_type_of (fc b).ty)
            (c.swapped (fc a).ty) operand.Temporary operand.Temporary)
            (λ x y. asked node (λ s. sum_of s (c.swapped (fc a).ty) false (stride structs ty) (numbered (int_type_of (fc a).ty) x)
            (numbered (int_type_of (fc b).ty) y)))
            (of_one a (both_left (built.expr_kind (fc a).kind) _ fine))
            (of_one b (both_right (built.expr_kind (fc a).kind) _ fine))
            (λ x y q d ts hd. two_is node first d ts x y _ hd);
        part = λ local. absurd (grind (arith, local));
      }

      expr_case : (y : ExprKind-F A B C D) → ExprClaim (roll-ExprKind (opened y))
      expr_case y = λ ty node fine.
          let x = opened y in
          subst (λ (g : Ty → ℕ → Action Value). Sim value (g ty node) (c.expr_kind structs (roll-ExprKind x) ty node))
          (sym (mean_roll x))
          (subst (λ (g : Ty → ℕ → Code). Sim value (meant_layer y ty node) (g ty node)) (sym (code_roll structs x))
          (layer y ty node (sym (built_roll x) ∙ fine)))

      place_case : (y : PlaceKind-F A B C D) → PlaceClaim (roll-PlaceKind (opened_place y))
      place_case y = λ ty node fine.
          let x = opened_place y in
          subst (λ (g : Ty → ℕ → Action Location). SimPlace (built.place_kind (roll-PlaceKind x)).local (g ty node)
          (c.place_kind structs (roll-PlaceKind x) ty node)) (sym (mean_place_roll x))
          (subst (λ (g : Ty → ℕ → Spot). SimPlace (built.place_kind (roll-PlaceKind x)).local (meant_place_layer y ty node)
          (g ty node)) (sym (code_place_roll structs x))
          (subst (λ (g : BuiltPlace). SimPlace g.local (meant_place_layer y ty node) (coded_place_layer y ty node))
          (sym (built_place_roll x)) (place_layer y ty node
          (ap (λ (g : BuiltPlace). g.built) (sym (built_place_roll x)) ∙ fine))))

    -- each expression
    expr_served : (k : ExprKind) → ExprClaim k
    expr_served = ind-ExprKind ExprClaim PlaceClaim (λ e. ExprClaim e.kind) (λ p. PlaceClaim p.kind)
        (λ x y is. subst (λ z. ExprClaim (roll-ExprKind z)) is
        (expr_case (λ e. e.0) (λ e. e.0) (λ e. e.0) (λ e. e.0) (λ e. e.1) (λ e. e.1) y))
        (λ x y is. subst (λ z. PlaceClaim (roll-PlaceKind z)) is
        (place_case (λ e. e.0) (λ e. e.0) (λ e. e.0) (λ e. e.0) (λ e. e.1) (λ e. e.1) y))
        (λ x y is. subst (λ z. ExprClaim z.kind) is y.kind.1)
        (λ x y is. subst (λ z. PlaceClaim z.kind) is y.kind.1)

    pub sim_expr : (x : Expr) → built.expr x ≡ true
        → d.Sim ir rs f fn is first below (λ v. value v) (mean.expr structs rs call first x) (c.expr structs x)
    sim_expr x fine = expr_served x.kind x.ty x.node fine
