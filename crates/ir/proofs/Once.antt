-- Between two marks a run makes no step twice, where jumps go ahead or to a turn.
use Rattle.std.proofs.Common.{◌≡◌, ℕ, suc, ◌+◌, ◌<◌, ◌≤◌, ◌⊎◌, inl, inr, List, [], ◌∷◌, Some, Bool, true, false, refl, sym, ap, ◌∙◌, subst, arith}
use Rattle.std.specs.Prelude.{slice_get}
use Rattle.base16.specs.declared.reading.Reading.{Reading}
use Rattle.c_values.specs.declared.value.Value.{Value}
use Rattle.c_run.specs.Runs.{Run, Went}
use Rattle.ir.specs.declared.form.Ir.{Ir}
use Rattle.ir.specs.declared.form.IrFunction.{IrFunction}
use Rattle.ir.specs.declared.form.Step.{Step}
use Rattle.ir.specs.Machine as m
use Rattle.ir.specs.Machine.{Control, At, Calling, Returning, Frame, Temporary}
use Rattle.ir.specs.Between.{Site, site_of, Reaches, begun, no_mark, a_mark, Absent, Distinct, MakesOnce}
use Rattle.ir.specs.Jumps.{is_turn, IsOrdered}
use Rattle.ir.specs.Laws.{MakesStepsOnce}
use Rattle.ir.proofs.Advance.{Advance, halted, on, marked, Here, adv_act, adv_turn, adv_enter, adv_result, adv_step_in}
use Rattle.ir.proofs.Bounded.{same_step}

not_both : {A : Type 0} (b : Bool) → b ≡ false → b ≡ true → A
not_both b e g = let h : false ≡ true = sym e ∙ g in absurd (grind (arith, h))

either : (b : Bool) → (b ≡ true) ⊎ (b ≡ false)
either true = inl refl
either false = inr refl

module _ (ir : Ir) (rs : List Reading) where
  -- no entry and no turn
  record Plain (x : Site) : Type 0 where
    later : 1 ≤ x.position
    other : (fn : IrFunction) (s : Step) → slice_get ir.functions x.function ≡ Some fn
        → slice_get fn.steps x.position ≡ Some s → is_turn s.kind ≡ true → ⊥

  abbrev AllPlain : List Site → Type 0
  AllPlain [] = Unit {0}
  AllPlain (x ∷ xs) = Plain x × AllPlain xs

  abbrev Before : ℕ → ℕ → List Site → Type 0
  Before f p [] = Unit {0}
  Before f p (x ∷ xs) = (x.function ≡ f) × (x.position < p) × Before f p xs

  abbrev AllLater : List Frame → Type 0
  AllLater [] = Unit {0}
  AllLater (b ∷ below) = (1 ≤ b.position) × AllLater below

  -- the next step was not made since the last mark
  data Free (made : List Site) : Control → Type 0 where
    at : {f p first : ℕ} {ts : List Temporary} {below : List Frame} → 1 ≤ p → Before f p made → AllLater below
        → Free made (At f p first ts below)
    turn : {f p first : ℕ} {ts : List Temporary} {below : List Frame} (fn : IrFunction) (s : Step)
        → slice_get ir.functions f ≡ Some fn → slice_get fn.steps p ≡ Some s → is_turn s.kind ≡ true → AllLater below
        → Free made (At f p first ts below)
    calling : {f d : ℕ} {args : List Value} {below : List Frame} → AllLater below → Free made (Calling f d args below)
    returning : {v : Value} {b : Frame} {below : List Frame} → made ≡ [] → 1 ≤ b.position → AllLater below
        → Free made (Returning v (b ∷ below))

  record Inv (made : List Site) (c : Control) : Type 0 where
    distinct : Distinct made
    plain : AllPlain made
    free : Free made c

  absent_before : (f p : ℕ) (made : List Site) → Before f p made → Absent (record { function = f; position = p }) made
  absent_before f p [] h = tt
  absent_before f p (x ∷ xs) h = (
    λ e. let same : p ≡ x.position = ap (λ (s : Site). s.position) e in
        let lt : x.position < p = h.1 in absurd (omega arith),
    absent_before f p xs h.2,
  )

  absent_turn : (f p : ℕ) (fn : IrFunction) (s : Step) → slice_get ir.functions f ≡ Some fn → slice_get fn.steps p ≡ Some s
      → is_turn s.kind ≡ true → (made : List Site) → AllPlain made → Absent (record { function = f; position = p }) made
  absent_turn f p fn s is g k [] h = tt
  absent_turn f p fn s is g k (x ∷ xs) h = (
    λ e. h.0.other fn s (subst (λ (y : Site). slice_get ir.functions y.function ≡ Some fn) e is) (subst (λ
        (y : Site). slice_get fn.steps y.position ≡ Some s) e g) k,
    absent_turn f p fn s is g k xs h.1,
  )

  absent_entry : (f : ℕ) (made : List Site) → AllPlain made → Absent (record { function = f; position = 0 }) made
  absent_entry f [] h = tt
  absent_entry f (x ∷ xs) h = (
    λ e. let same : 0 ≡ x.position = ap (λ (s : Site). s.position) e in
        let lt : 1 ≤ x.position = h.0.later in absurd (omega arith),
    absent_entry f xs h.1,
  )

  absent : (made : List Site) (c : Control) → Inv made c → Absent (site_of c) made
  absent made c i = by c i.free
    where
      by : (c : Control) → Free made c → Absent (site_of c) made
      by (At f p first ts below) (at past before w) = absent_before f p made before
      by (At f p first ts below) (turn fn s is g k w) = absent_turn f p fn s is g k made i.plain
      by (Calling f d args below) (calling w) = absent_entry f made i.plain
      by (Returning v []) h = elim h [ ]
      by (Returning v (x ∷ below)) (returning e past w) = subst (λ l. Absent
          (record { function = x.function; position = x.position }) l) (sym e) tt

  before_more : (f p q : ℕ) (made : List Site) → p < q → Before f p made → Before f q made
  before_more f p q [] lt h = tt
  before_more f p q (x ∷ xs) lt h = let less : x.position < p = h.1 in (h.0, omega arith, before_more f p q xs lt h.2)

  fresh : (c : Control) → Free [] c → Inv [] c
  fresh c f = record { distinct = tt; plain = tt; free = f }

  module _ (ordered : IsOrdered ir.functions) where
    -- at a step that is no turn
    here_at : (made : List Site) (f p : ℕ) (below : List Frame) (fn : IrFunction) (s : Step)
        → slice_get ir.functions f ≡ Some fn → slice_get fn.steps p ≡ Some s → is_turn s.kind ≡ false → 1 ≤ p
        → Before f p made → AllLater below
        → Distinct made → AllPlain made → Here (Inv (record { function = f; position = p } ∷ made)) (Inv []) fn f p below
    here_at made f p below fn s is g not_turn past before w dist plain =
        let more : Distinct (record { function = f; position = p } ∷ made) = (absent_before f p made before, dist) in
        let all : AllPlain (record { function = f; position = p } ∷ made) = (
          record {
            later = past;
            other = λ gn t gis tg k. not_both (is_turn s.kind) not_turn (subst
                (λ x. is_turn x.kind ≡ true) (sym (same_step ir.functions f p fn gn s t is gis g tg)) k);
          },
          plain,
        ) in
        record {
          ahead = λ to first ts lt. record {
            distinct = more;
            plain = all;
            free = at (omega arith)
                (refl, lt, before_more f p to made lt before) w;
          };
          turned = λ to first ts t e k. record { distinct = more; plain = all; free = turn fn t is e k w };
          called = λ h d first args ts. record { distinct = more; plain = all; free = calling (omega arith, w) };
          anew = λ to first ts lt. fresh _ (at (omega arith) tt w);
          returned = λ v b rest e. fresh _ (back v b rest (subst AllLater e w));
        }
      where
        back : (v : Value) (b : Frame) (rest : List Frame) → AllLater (b ∷ rest) → Free [] (Returning v (b ∷ rest))
        back v b rest h = returning refl h.0 h.1

    inv_step : (made : List Site) (c : Control) (r : Run) → Inv made c
        → Advance (Inv (site_of c ∷ made)) (Inv []) r.left (m.one_step ir rs c r)
    inv_step made c r i = by c i.free
      where
        at_turn : (f p first : ℕ) (ts : List Temporary) (below : List Frame) (fn : IrFunction) (s : Step)
            → slice_get ir.functions f ≡ Some fn → slice_get fn.steps p ≡ Some s → is_turn s.kind ≡ true → AllLater below
            → Advance (Inv (record { function = f; position = p } ∷ made)) (Inv []) r.left
            (m.act ir rs s.node s.kind f p first ts below r)
        at_turn f p first ts below fn s is g k w =
            adv_turn ir rs f p below fn (λ to first us lt. fresh _ (at (omega arith) tt w)) s.node s.kind first ts r k
            (ordered f p fn s is g)

        sides : (f p first : ℕ) (ts : List Temporary) (below : List Frame) (fn : IrFunction) (s : Step)
            → slice_get ir.functions f ≡ Some fn → slice_get fn.steps p ≡ Some s → 1 ≤ p → Before f p made → AllLater below
            → (is_turn s.kind ≡ true) ⊎ (is_turn s.kind ≡ false)
            → Advance (Inv (record { function = f; position = p } ∷ made)) (Inv []) r.left
            (m.act ir rs s.node s.kind f p first ts below r)
        sides f p first ts below fn s is g past before w (inl k) = at_turn f p first ts below fn s is g k w
        sides f p first ts below fn s is g past before w (inr not_turn) = adv_act ir rs
            (here_at made f p below fn s is g not_turn past before w i.distinct i.plain) s.node s.kind first ts r
            (ordered f p fn s is g)

        result_side : (v : Value) (b : Frame) (below : List Frame) → made ≡ [] → 1 ≤ b.position → AllLater below
            → (fn : IrFunction) (s : Step) → slice_get ir.functions b.function ≡ Some fn
            → slice_get fn.steps b.position ≡ Some s
            → Advance (Inv (record { function = b.function; position = b.position } ∷ made)) (Inv []) r.left
            (m.act_result ir rs s.kind v b below r)
        result_side v b below e past w fn s is g =
            adv_result ir rs s.kind v b below r (λ not_turn ts. record {
              distinct = (subst (λ l. Absent (record { function = b.function; position = b.position }) l) (sym e) tt, i.distinct);
              plain = (
                record {
                  later = past;
                  other = λ gn t gis tg k. not_both (is_turn s.kind) not_turn (subst
                      (λ x. is_turn x.kind ≡ true) (sym (same_step ir.functions b.function b.position fn gn s t is gis g tg)) k);
                },
                i.plain,
              );
              free = at (omega arith) (refl, omega arith, subst (λ l. Before b.function (b.position + 1) l) (sym e) tt) w;
            })

        by : (c : Control) → Free made c → Advance (Inv (site_of c ∷ made)) (Inv []) r.left (m.one_step ir rs c r)
        by (At f p first ts below) (at past before w) = adv_step_in ir rs f p r _
            (λ fn s is g. sides f p first ts below fn s is g past before w (either (is_turn s.kind)))
        by (At f p first ts below) (turn fn t is e k w) =
            adv_step_in ir rs f p r _ (λ gn s gis g. at_turn f p first ts below gn s gis g (subst
            (λ x. is_turn x.kind ≡ true) (same_step ir.functions f p fn gn t s is gis e g) k) w)
        by (Calling f d args below) (calling w) = adv_step_in ir rs f 0 r _
            (λ fn s is g. adv_enter ir rs f below s.kind fn args r (λ first. fresh _ (at (omega arith) tt w)))
        by (Returning v []) h = halted
        by (Returning v (b ∷ below)) (returning e past w) =
            adv_step_in ir rs b.function b.position r _ (λ fn s is g. result_side v b below e past w fn s is g)

    -- what an advance says of the step that was made
    kept_on : (made : List Site) (b d : Control) (r q : Run) → m.one_step ir rs b r ≡ Went d q
        → Advance (Inv (site_of b ∷ made)) (Inv []) r.left (m.one_step ir rs b r) → q.left ≡ r.left → Inv (site_of b ∷ made) d
    kept_on made b d r q e a same = from (subst (λ o. Advance (Inv (site_of b ∷ made)) (Inv []) r.left o) e a) same
      where
        from : Advance (Inv (site_of b ∷ made)) (Inv []) r.left (Went d q) → q.left ≡ r.left → Inv (site_of b ∷ made) d
        from (on h i) same = i
        from (marked h i) same = absurd (omega arith)

    new_on : (made : List Site) (b d : Control) (r q : Run) → m.one_step ir rs b r ≡ Went d q
        → Advance (Inv (site_of b ∷ made)) (Inv []) r.left (m.one_step ir rs b r) → suc q.left ≡ r.left → Inv [] d
    new_on made b d r q e a less = from (subst (λ o. Advance (Inv (site_of b ∷ made)) (Inv []) r.left o) e a) less
      where
        from : Advance (Inv (site_of b ∷ made)) (Inv []) r.left (Went d q) → suc q.left ≡ r.left → Inv [] d
        from (on h i) less = absurd (omega arith)
        from (marked h i) less = i

    all_reached : (c0 : Control) (r0 : Run) → Inv [] c0 → (c : Control) (r : Run) (made : List Site)
        → Reaches ir rs c0 r0 c r made → Inv made c
    all_reached c0 r0 i c r made (begun) = i
    all_reached c0 r0 i c r made (no_mark {c = b} {r = q} {made = old} h e same) = kept_on old b c q r e (inv_step old b q
        (all_reached c0 r0 i b q old h)) same
    all_reached c0 r0 i c r made (a_mark {c = b} {r = q} {made = old} h e less) = new_on old b c q r e (inv_step old b q
        (all_reached c0 r0 i b q old h)) less

    -- from the entry of a function, with nothing below
    pub once : (f : ℕ) (r0 : Run) → MakesOnce ir rs (Calling f 0 [] []) r0
    once f r0 c r made h =
        let i = all_reached (Calling f 0 [] []) r0 (fresh _ (calling tt)) c r made h in
        (absent made c i, i.distinct)

  pub steps_once : IsOrdered ir.functions → MakesStepsOnce ir rs
  steps_once ordered r = once ordered ir.main r
