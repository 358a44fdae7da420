-- What an action does from a run whose pointers are inside: it goes on to another one, where what was inside is so still, or it
-- stops.
use Rattle.std.proofs.Common.{ℕ, zero, suc, ◌+◌, ◌≤◌, List, [], ◌∷◌, ◌++◌, length, Option, Some, None, Result, Ok, Err, Bool, true, false, refl, sym, subst, cond}
use Rattle.std.specs.Prelude.{nat_eq, nat_lt, slice_get, pos, ℤ}
use Rattle.base16.specs.declared.end.EndKind.TheVariants.{OutputFull}
use Rattle.base16.specs.declared.image.Kind.{Kind}
use Rattle.base16.specs.declared.reading.Reading.{Reading}
use Rattle.base16.specs.declared.reading.Reading.TheVariants as reading
use Rattle.base16.specs.Integer.{wrapped}
use Rattle.base16.specs.Placement.{frame_below}
use Rattle.core_tree.specs.declared.types.Slot.{Slot}
use Rattle.core_tree.specs.LawfulCore.{Every}
use Rattle.c_values.specs.declared.value.Location.{Location}
use Rattle.c_values.specs.declared.value.Value.{Value}
use Rattle.c_values.specs.declared.value.Value.TheVariants.{Int, Undefined}
use Rattle.c_values.specs.Objects.{accessed, with_scalar}
use Rattle.c_values.specs.Values.{defined, if_accessed, fitted, fit, integer}
use Rattle.c_run.specs.Actions as act
use Rattle.c_run.specs.Runs.{Run, Stop, NeedsReading, Outcome, Went, Stopped, Action, and_then, ◌>>◌, pure, stop, given, changed, ended, counted, mark_by, mark}
use Rattle.ir.specs.declared.form.Operation.{Operation}
use Rattle.ir.specs.Machine.{computed, update}
use Rattle.ir_pointers.proofs.Growing.{IsIn, Fine, Came, came_then, came_here, came_beside, came_set, came_put, came_left, came_entered, entered_run, in_on, values_on}
use Rattle.ir_pointers.proofs.Values.{OnOk, Any, any_ok, IsKnownAt, loaded_in, stored_in, fit_in, computed_in}

pub data Done {A : Type 0} (r : Run) (P : Run → A → Type 0) : Outcome A → Type 0 where
  went : {a : A} {q : Run} → Came r q → P q a → Done r P (Went a q)
  stopped : {s : Stop} → Done r P (Stopped s)

-- what needs no claim
abbrev pub Free : {A : Type 0} → Run → A → Type 0
Free q a = Unit {0}

pub done_on : {A : Type 0} {r q : Run} {P : Run → A → Type 0} {o : Outcome A} → Came r q → Done q P o → Done r P o
done_on c (went d p) = went (came_then c d) p
done_on c stopped = stopped

pub done_then : {A B : Type 0} {r : Run} {P : Run → A → Type 0} {Q : Run → B → Type 0} (o : Outcome A) (k : A → Action B)
    → Done r P o → ((q : Run) (a : A) → Came r q → P q a → Done q Q (k a q)) → Done r Q (and_then o k)
done_then (Went a q) k (went c p) h = done_on c (h q a c p)
done_then (Stopped s) k d h = stopped

pub done_seq : {A B : Type 0} {r : Run} {Q : Run → B → Type 0} (o : Outcome A) (k : Action B) → Done r Free o
    → ((q : Run) → Came r q → Done q Q (k q)) → Done r Q (and_then o (λ _. k))
done_seq o k d h = done_then o (λ _. k) d (λ q a c p. h q c)

-- ---- what is asked of the state

done_given : {A B : Type 0} {r : Run} {Q : Run → B → Type 0} (P : A → Type 0) (node : ℕ) (x : Result A ℕ) (k : A → Action B)
    → OnOk P x → ((a : A) → P a → Done r Q (k a r)) → Done r Q (and_then (given node x r) k)
done_given P node (Ok a) k h g = g a h
done_given P node (Err e) k h g = stopped

pub done_gives : {B : Type 0} {r : Run} {Q : Run → B → Type 0} (node : ℕ) (x : Result Value ℕ) (k : Value → Action B)
    → OnOk (IsIn r) x → ((v : Value) → IsIn r v → Done r Q (k v r)) → Done r Q (and_then (given node x r) k)
done_gives {r = r} node x k h g = done_given (IsIn r) node x k h g

pub done_places : {B : Type 0} {r : Run} {Q : Run → B → Type 0} (node : ℕ) (x : Result Location ℕ) (k : Location → Action B)
    → OnOk (IsKnownAt r) x → ((l : Location) → IsKnownAt r l → Done r Q (k l r)) → Done r Q (and_then (given node x r) k)
done_places {r = r} node x k h g = done_given (IsKnownAt r) node x k h g

pub done_tells : {A B : Type 0} {r : Run} {Q : Run → B → Type 0} (node : ℕ) (x : Result A ℕ) (k : A → Action B)
    → ((a : A) → Done r Q (k a r)) → Done r Q (and_then (given node x r) k)
done_tells node x k g = done_given Any node x k (any_ok x) (λ a h. g a)

pub done_load : {B : Type 0} {r : Run} {Q : Run → B → Type 0} (node : ℕ) (l : Location) (k : Kind) (go : Value → Action B)
    → Fine r → ((v : Value) → IsIn r v → Done r Q (go v r)) → Done r Q (and_then (act.load node l k r) go)
unfolding act.load
done_load {r = r} node l k go fine h = done_gives node (defined (accessed r.state l k)) go (loaded_in r fine l k) h

-- ---- marks and counts

pub done_mark : (r : Run) → Fine r → Done r Free (mark r)
unfolding mark
done_mark r fine = by_left r.left
  where
    by_left : (n : ℕ) → Done r Free (mark_by n r)
    by_left zero = stopped
    by_left (suc n) = went (came_beside r (record r { state = counted r.state; left = n }) refl refl refl refl fine) tt

-- where no block is open nothing is counted
done_count : (r : Run) → Fine r → (words : ℕ) → Done r Free (act.count words r)
unfolding act.count
done_count r fine words =
    subst (λ o. Done r Free (act.count_in words o r.state r)) (sym fine.no_block) (went (came_here r fine) tt)

-- ---- scalars

pub done_store : (r : Run) → Fine r → (node : ℕ) (l : Location) (k : Kind) (v : Value) (marked : Bool) → IsIn r v
    → Done r IsIn (act.store node l k v marked r)
unfolding act.store
done_store r fine node l k v marked i =
    done_gives node (if_accessed (accessed r.state l k) (fitted k v)) _ (stored_in r l k v i) (λ w j. by_mark w j marked)
  where
    by_mark : (w : Value) → IsIn r w → (b : Bool) → Done r IsIn (cond b
        (act.count 1 >> changed (act.put_at l.object l.offset w) >> mark >> pure w)
        (changed (act.put_at l.object l.offset w) >> pure w) r)
    by_mark w j true =
        done_seq _ (pure w)
        (done_seq _ mark
        (done_seq (act.count 1 r) (changed (act.put_at l.object l.offset w)) (done_count r fine 1)
        (λ q c. went (came_put q c.fine l.object l.offset w (in_on c.grows w j)) tt))
        (λ q c. done_mark q c.fine))
        (λ q c. went (came_here q c.fine) (in_on c.grows w j))
    by_mark w j false =
        let c = came_put r fine l.object l.offset w j in
        went c (in_on c.grows w j)

-- the old and the new value
pub done_update : (r : Run) → Fine r → (node : ℕ) (l : Location) (k : Kind) (op : Operation) (v : Value) (marked : Bool)
    → IsIn r v → Done r (λ q (w : Value × Value). IsIn q w.0 × IsIn q w.1) (update node l k op v marked r)
unfolding update
done_update r fine node l k op v marked h =
    done_load node l k _ fine (λ b i. done_gives node (computed r.state op b v) _ (computed_in r op b v i h) (λ a j.
    done_then (act.store node l k a marked r) (λ w. pure (w, b)) (done_store r fine node l k a marked j) (λ q w c p.
    went (came_here q c.fine) (p, in_on c.grows b i))))

-- ---- the outside

pub done_sense : (r : Run) → Fine r → (rs : List Reading) (channel : ℕ) → Done r IsIn (act.sense rs channel r)
unfolding act.sense act.sense_reading
done_sense r fine rs channel =
    done_then (act.sensed channel (slice_get rs r.used) r) _ (read (slice_get rs r.used)) (λ q v c p.
    done_seq (mark q) (pure (Int (pos v))) (done_mark q c.fine) (λ t d. went (came_here t d.fine) tt))
  where
    if_channel : (b : Bool) (v : ℕ) → Done r Free (cond b (act.taken v) (stop NeedsReading) r)
    if_channel true v = went (came_beside r (record r { used = r.used + 1 }) refl refl refl refl fine) tt
    if_channel false v = stopped

    read : (o : Option Reading) → Done r Free (act.sensed channel o r)
    read None = stopped
    read (Some (reading.Clock ms)) = stopped
    read (Some (reading.Sense c v)) = if_channel (nat_eq c channel) v

pub done_emit : (r : Run) → Fine r → (node : ℕ) (v : Value) → Done r IsIn (act.emit node v r)
unfolding act.emit
done_emit r fine node v =
    done_tells node (integer v) _ (λ z. done_seq (act.output_room r) _ (room (nat_lt (length r.state.outputs) 256)) (λ q c.
    done_seq (act.count 2 q) _ (done_count q c.fine 2) (λ t d. put z t d.fine)))
  where
    room : (b : Bool) → Done r Free (cond b (pure {A = Unit {0}} tt) (ended OutputFull) r)
    room true = went (came_here r fine) tt
    room false = stopped

    put : (z : ℤ) (t : Run) → Fine t → Done t IsIn ((changed (λ s. record s { outputs = s.outputs ++ wrapped z ∷ [] }) >>
        (mark >> pure Undefined)) t)
    put z t fine =
        let u : Run = record t { state = record t.state { outputs = t.state.outputs ++ wrapped z ∷ [] } } in
        let c : Came t u = came_beside t u refl refl refl refl fine in
        done_on c (done_seq (mark u) (pure Undefined) (done_mark u c.fine) (λ q d. went (came_here q d.fine) tt))

-- ---- calls

pub done_leave : (r : Run) → Fine r → Done r Free (act.leave r)
unfolding act.leave
done_leave r fine =
    let u : Run = record r { state = act.left_call r.state } in
    let c : Came r u = came_left r fine in
    done_on c (done_mark u c.fine)

-- the objects of the call that is entered are among those that came to life
pub done_enter : (r : Run) → Fine r → (function bytes : ℕ) (slots : List (List Slot))
    → Done r (λ q (first : ℕ). first + length slots ≤ q.next) (act.enter function bytes slots r)
unfolding act.enter
done_enter r fine function bytes slots = by_frame (frame_below (act.top_of r.state) bytes)
  where
    by_frame : (o : Option ℕ) → Done r (λ q (first : ℕ). first + length slots ≤ q.next)
        (and_then (act.entered function slots o r) (λ first. mark >> pure first))
    by_frame None = stopped
    by_frame (Some frame) =
        let u : Run = entered_run function frame slots r in
        let c : Came r u = came_entered r fine function frame slots in
        done_on c (done_seq (mark u) (pure r.next) (done_mark u c.fine) (λ q d. went (came_here q d.fine) d.grows.many))

pub came_params : (r : Run) → Fine r → (n : ℕ) (ks : List Kind) (vs : List Value) → Every (IsIn r) vs
    → Came r (record r { state = act.with_params n ks vs r.state })
came_params r fine n [] vs h = came_beside r (record r { state = r.state }) refl refl refl refl fine
came_params r fine n (k ∷ ks) [] h = came_beside r (record r { state = r.state }) refl refl refl refl fine
came_params r fine n (k ∷ ks) (v ∷ vs) h =
    let u : Run = record r { state = with_scalar n 0 (fit k v) r.state } in
    let c : Came r u = came_set r fine n 0 (fit k v) (fit_in r k v h.0) in
    came_then c (came_params u c.fine (n + 1) ks vs (values_on c.grows vs h.1))
