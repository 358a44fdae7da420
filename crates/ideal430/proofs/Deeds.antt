-- What a service does depends on the bytes that it uses alone.
use Rattle.std.proofs.Common.{◌≡◌, ℕ, ◌+◌, ◌-◌, ◌%◌, ◌<◌, Bool, true, false, not, ◌&&◌, nat_eq, nat_lt, min, refl, sym, ap, ◌∙◌, subst, arith, Option, Some, None, [], length, if◌then◌else◌}
use Rattle.std.proofs.lemmas.Bool.Decides.{nat_tests}
use Rattle.std.proofs.Math.Path.{fun_ext}
use Rattle.base16.specs.Board.{segment_top, outputs_start, most_outputs}
use Rattle.base16.specs.declared.end.EndKind.{EndKind}
use Rattle.base16.specs.declared.end.EndKind.TheVariants.{OutputFull, BlockFull}
use Rattle.core430.specs.Registers.{set_reg}
use Rattle.core430.specs.Uses.{IsWithin, SameOn}
use Rattle.core430.proofs.SameBytes.{same-word}
use Rattle.core430.proofs.Truths.{or-left, or-right, and-both}
use Rattle.ideal430.specs.Places.{is_in_word}
use Rattle.ideal430.specs.Service.{Block, has_place, enter_effect, Effect, mark, popped, outputs_of, has_stack, is_frame, is_linked, is_link, is_bad_link, wild_where, own_wild, wild_of, full_block, own_full, refusal_or, refusal_of, returned, leave_effect, emit_stores, own_effect, deed_if, deed_of, deed_if_built, deed_at, service_of, service_at, if_built, is_built, own_ask, ask_if, ask_if_built, ask_at, OnDoes}
use Rattle.ideal430.specs.Settled.{Bytes}
use Rattle.ideal430.specs.Uses.{leave_uses, service_uses, uses_if_built, uses_at}
use Rattle.ideal430.specs.Shown.{AreEven, block_words}
use Rattle.ideal430.specs.declared.service.Service.{Service}
use Rattle.ideal430.specs.declared.service.Service.TheVariants.{Halt, Enter, Leave, Turn, StoreWord, StoreByte, StampWord, StampByte, Sense, Emit, Open, Check, Close, Timely, Checkpoint}
use Rattle.ideal430.proofs.Refusing.{Allowed, allowed_of, stack-even, frame-even, leave-even, leave-link}
use Rattle.ideal430.proofs.Effects.{no-built, own_effect-even, own_effect-small}

-- ---- words that are used

first-in : (a : ℕ) → is_in_word a a ≡ true
first-in a = grind (arith, nat_tests)

second-in : (a : ℕ) → is_in_word a (a + 1) ≡ true
second-in a = grind (arith, nat_tests)

pub word-same : (p : Bytes) (m k : ℕ → ℕ) (a : ℕ) → SameOn p m k → a % 2 ≡ 0 → IsWithin (λ b. is_in_word a b) p → m a ≡ k a
word-same p m k a s e h = same-word p m k a s e (h a (first-in a)) (h (a + 1) (second-in a))

-- ---- refusals

link-same : (p : Bytes) (m k : ℕ → ℕ) (segment end : ℕ) → SameOn p m k → end % 2 ≡ 0 → IsWithin (leave_uses m segment end) p
    → is_bad_link m segment end ≡ is_bad_link k segment end
link-same p m k segment end s e h =
    ap (λ w. is_linked segment end && not (is_link segment w))
    (word-same p m k end s e (λ b i. h b (or-left (is_in_word end b) _ i)))

leave-wild : (p : Bytes) (m k r : ℕ → ℕ) (segment : ℕ) (b c : Block) → SameOn p m k
    → IsWithin (leave_uses m segment (r 1 + 2 + r 15)) p
    → has_stack segment (r 1) ≡ true → own_wild Leave r m segment b ≡ own_wild Leave r k segment c
leave-wild p m k r segment b c s h stack = by (is_frame (r 15)) refl
  where
    by : (f : Bool) → is_frame (r 15) ≡ f
        → wild_where (not f) (r 1) (wild_where (nat_lt (segment_top segment) (r 1 + 2 + r 15 + 2)) (r 1)
        (wild_where (is_bad_link m segment (r 1 + 2 + r 15)) (r 1) None))
        ≡ wild_where (not f) (r 1) (wild_where (nat_lt (segment_top segment) (r 1 + 2 + r 15 + 2)) (r 1)
        (wild_where (is_bad_link k segment (r 1 + 2 + r 15)) (r 1) None))
    by false e = refl
    by true e =
        let f = frame-even (r 15) e in
        let g = stack-even segment (r 1) stack in
        let even : (r 1 + 2 + r 15) % 2 ≡ 0 = omega arith in
        ap (λ x. wild_where (nat_lt (segment_top segment) (r 1 + 2 + r 15 + 2)) (r 1) (wild_where x (r 1) None))
        (link-same p m k segment (r 1 + 2 + r 15) s even h)

own_wild-same : (p : Bytes) (m k : ℕ → ℕ) (service : Service) (r : ℕ → ℕ) (segment : ℕ) (b c : Block) → is_built service ≡ true
    → SameOn p m k → IsWithin (service_uses service r m segment) p → has_stack segment (r 1) ≡ true
    → own_wild service r m segment b ≡ own_wild service r k segment c
own_wild-same p m k Halt r segment b c built s h stack = refl
own_wild-same p m k Enter r segment b c built s h stack = refl
own_wild-same p m k Leave r segment b c built s h stack = leave-wild p m k r segment b c s h stack
own_wild-same p m k Turn r segment b c built s h stack = refl
own_wild-same p m k StoreWord r segment b c built s h stack = refl
own_wild-same p m k StoreByte r segment b c built s h stack = refl
own_wild-same p m k StampWord r segment b c built s h stack = refl
own_wild-same p m k StampByte r segment b c built s h stack = refl
own_wild-same p m k Sense r segment b c built s h stack = refl
own_wild-same p m k Emit r segment b c built s h stack = refl
own_wild-same p m k Open r segment b c built s h stack = no-built built
own_wild-same p m k Check r segment b c built s h stack = no-built built
own_wild-same p m k Close r segment b c built s h stack = no-built built
own_wild-same p m k Timely r segment b c built s h stack = refl
own_wild-same p m k Checkpoint r segment b c built s h stack = refl

wild-same : (p : Bytes) (m k : ℕ → ℕ) (service : Service) (r : ℕ → ℕ) (segment : ℕ) (b c : Block) → is_built service ≡ true
    → SameOn p m k → IsWithin (service_uses service r m segment) p → wild_of service r m segment b ≡ wild_of service r k segment c
wild-same p m k service r segment b c built s h = by (has_stack segment (r 1)) refl
  where
    by : (f : Bool) → has_stack segment (r 1) ≡ f
        → wild_where (not f) (r 1) (own_wild service r m segment b) ≡ wild_where (not f) (r 1) (own_wild service r k segment c)
    by true e = own_wild-same p m k service r segment b c built s h e
    by false e = refl

full_block-same : (b c : Block) (words : ℕ) → block_words b ≡ block_words c → full_block b words ≡ full_block c words
full_block-same None None words e = refl
full_block-same None (Some ys) words e = absurd (no e)
  where
    no : None ≡ Some (length ys) → ⊥
    no k = cc
full_block-same (Some xs) None words e = absurd (no e)
  where
    no : Some (length xs) ≡ None → ⊥
    no k = cc
full_block-same (Some xs) (Some ys) words e = ap (λ n. if nat_lt 128 (n + words) then Some BlockFull else None) (one e)
  where
    one : Some (length xs) ≡ Some (length ys) → length xs ≡ length ys
    one k = cc

outputs-same : (p : Bytes) (m k : ℕ → ℕ) → SameOn p m k → IsWithin (λ b. is_in_word outputs_start b) p
    → outputs_of m ≡ outputs_of k
outputs-same p m k s h = ap (λ w. min w most_outputs) (word-same p m k outputs_start s refl h)

own_full-same : (p : Bytes) (m k : ℕ → ℕ) (service : Service) (r : ℕ → ℕ) (segment : ℕ) (b c : Block) → is_built service ≡ true
    → SameOn p m k → IsWithin (service_uses service r m segment) p → block_words b ≡ block_words c
    → own_full service (popped r m) m segment b ≡ own_full service (popped r k) k segment c
own_full-same p m k Halt r segment b c built s h e = refl
own_full-same p m k Enter r segment b c built s h e = refl
own_full-same p m k Leave r segment b c built s h e = refl
own_full-same p m k Turn r segment b c built s h e = refl
own_full-same p m k StoreWord r segment b c built s h e = full_block-same b c 1 e
own_full-same p m k StoreByte r segment b c built s h e = full_block-same b c 1 e
own_full-same p m k StampWord r segment b c built s h e = full_block-same b c 3 e
own_full-same p m k StampByte r segment b c built s h e = full_block-same b c 3 e
own_full-same p m k Sense r segment b c built s h e = refl
own_full-same p m k Emit r segment b c built s h e =
    ap (λ n. if nat_lt n most_outputs then full_block b 2 else Some OutputFull)
    (outputs-same p m k s (λ x i. h x (or-right (is_in_word (r 1) x) _ i)))
    ∙ ap (λ f. if nat_lt (outputs_of k) most_outputs then f else Some OutputFull) (full_block-same b c 2 e)
own_full-same p m k Open r segment b c built s h e = refl
own_full-same p m k Check r segment b c built s h e = refl
own_full-same p m k Close r segment b c built s h e = refl
own_full-same p m k Timely r segment b c built s h e = refl
own_full-same p m k Checkpoint r segment b c built s h e = refl

pub refusal-same : (p : Bytes) (m k : ℕ → ℕ) (service : Service) (r : ℕ → ℕ) (segment : ℕ) (b c : Block) → is_built service ≡ true
    → SameOn p m k → IsWithin (service_uses service r m segment) p → block_words b ≡ block_words c
    → refusal_of service r m segment b ≡ refusal_of service r k segment c
refusal-same p m k service r segment b c built s h e =
    ap (λ w. refusal_or w (own_full service (popped r m) m segment b)) (wild-same p m k service r segment b c built s h)
    ∙ ap (refusal_or (wild_of service r k segment c)) (own_full-same p m k service r segment b c built s h e)

-- ---- effects

popped-same : (m k r : ℕ → ℕ) → m (r 1) ≡ k (r 1) → popped r m ≡ popped r k
popped-same m k r e = ap (λ x. set_reg (set_reg r 0 x) 1 (r 1 + 2)) e

-- PC and SP are set again
returned-same : (m k r : ℕ → ℕ) (a : ℕ) → m a ≡ k a → returned (popped r m) m a ≡ returned (popped r k) k a
returned-same m k r a e = ap (λ x. set_reg (set_reg (popped r m) 0 x) 1 (a + 2)) e
    ∙ fun_ext (λ j. at (nat_eq j 0) (nat_eq j 1) (r j))
  where
    at : (s t : Bool) (u : ℕ) → (if t then a + 2 else (if s then k a else (if t then r 1 + 2 else (if s then m (r 1) else u))))
        ≡ (if t then a + 2 else (if s then k a else (if t then r 1 + 2 else (if s then k (r 1) else u))))
    at s true u = refl
    at true false u = refl
    at false false u = refl

-- a frame with a link word behind it: the link word is right, so the word that it points to has an even address
link-even : (m : ℕ → ℕ) (segment end : ℕ) → is_bad_link m segment end ≡ false → is_linked segment end ≡ true → m end % 2 ≡ 0
link-even m segment end h e = at (m end) (subst (λ (x : Bool). (x && not (is_link segment (m end))) ≡ false) e h)
  where
    at : (w : ℕ) → not (is_link segment w) ≡ false → w % 2 ≡ 0
    at w k = grind (arith, nat_tests)

leave-same : (p : Bytes) (m k r : ℕ → ℕ) (segment : ℕ) (b : Block) → SameOn p m k
    → IsWithin (leave_uses m segment (r 1 + 2 + r 15)) p
    → Allowed Leave r m segment b → leave_effect (popped r m) m segment (r 1 + 2 + r 15)
    ≡ leave_effect (popped r k) k segment (r 1 + 2 + r 15)
leave-same p m k r segment b s h a = by (is_linked segment end) refl
  where
    end : ℕ
    end = r 1 + 2 + r 15

    word : m end ≡ k end
    word = word-same p m k end s (leave-even r m segment b a) (λ x i. h x (or-left (is_in_word end x) _ i))

    by : (c : Bool) → is_linked segment end ≡ c
        → (if c then mark (returned (popped r m) m (m end)) (segment - 1) [] else
        (record (mark (returned (popped r m) m end) segment []) { ends = nat_eq segment 0 && nat_eq end 0x20FE }))
        ≡ (if c then mark (returned (popped r k) k (k end)) (segment - 1) [] else
        (record (mark (returned (popped r k) k end) segment []) { ends = nat_eq segment 0 && nat_eq end 0x20FE }))
    by true e =
        let even = link-even m segment end (leave-link r m segment b a) e in
        let used : IsWithin (λ x. is_in_word (m end) x) p = λ x i. h x (or-right (is_in_word end x) _ (and-both e i)) in
        ap (λ (f : ℕ → ℕ). mark f (segment - 1) [])
        (returned-same m k r (m end) (word-same p m k (m end) s even used) ∙ ap (λ w. returned (popped r k) k w) word)
    by false e =
        ap (λ (f : ℕ → ℕ). record (mark f segment []) { ends = nat_eq segment 0 && nat_eq end 0x20FE })
        (returned-same m k r end word)

-- the service's return word
back-same : (p : Bytes) (m k r : ℕ → ℕ) (segment : ℕ) → SameOn p m k → has_stack segment (r 1) ≡ true
    → IsWithin (λ x. is_in_word (r 1) x) p
    → popped r m ≡ popped r k
back-same p m k r segment s stack h = popped-same m k r (word-same p m k (r 1) s (stack-even segment (r 1) stack) h)

own_effect-same : (p : Bytes) (m k : ℕ → ℕ) (service : Service) (value : ℕ) (r : ℕ → ℕ) (segment : ℕ) (b c : Block)
    → is_built service ≡ true
    → SameOn p m k → IsWithin (service_uses service r m segment) p → Allowed service r m segment b
    → own_effect service value (popped r m) m segment b ≡ own_effect service value (popped r k) k segment c
own_effect-same p m k Halt value r segment b c built s h a = ap (λ (f : ℕ → ℕ). own_effect Halt value f k segment c)
    (back-same p m k r segment s a.stack h)
own_effect-same p m k Enter value r segment b c built s h a = ap (λ (f : ℕ → ℕ). own_effect Enter value f k segment c)
    (back-same p m k r segment s a.stack h)
own_effect-same p m k Leave value r segment b c built s h a = leave-same p m k r segment b s h a
own_effect-same p m k Turn value r segment b c built s h a = ap (λ (f : ℕ → ℕ). own_effect Turn value f k segment c)
    (back-same p m k r segment s a.stack h)
own_effect-same p m k StoreWord value r segment b c built s h a = ap (λ (f : ℕ → ℕ). own_effect StoreWord value f k segment c)
    (back-same p m k r segment s a.stack h)
own_effect-same p m k StoreByte value r segment b c built s h a = ap (λ (f : ℕ → ℕ). own_effect StoreByte value f k segment c)
    (back-same p m k r segment s a.stack h)
own_effect-same p m k StampWord value r segment b c built s h a = no-built built
own_effect-same p m k StampByte value r segment b c built s h a = no-built built
own_effect-same p m k Sense value r segment b c built s h a = ap (λ (f : ℕ → ℕ). own_effect Sense value f k segment c)
    (back-same p m k r segment s a.stack h)
own_effect-same p m k Emit value r segment b c built s h a =
    ap (λ (f : ℕ → ℕ). own_effect Emit value f m segment b)
    (back-same p m k r segment s a.stack (λ x i. h x (or-left (is_in_word (r 1) x) _ i)))
    ∙ ap (λ n. mark (popped r k) segment (emit_stores n (r 13)))
    (outputs-same p m k s (λ x i. h x (or-right (is_in_word (r 1) x) _ i)))
own_effect-same p m k Open value r segment b c built s h a = no-built built
own_effect-same p m k Check value r segment b c built s h a = no-built built
own_effect-same p m k Close value r segment b c built s h a = no-built built
own_effect-same p m k Timely value r segment b c built s h a = no-built built
own_effect-same p m k Checkpoint value r segment b c built s h a = ap
    (λ (f : ℕ → ℕ). own_effect Checkpoint value f k segment c) (back-same p m k r segment s a.stack h)

-- ---- deeds

-- a refusal, or what follows where there is none
deed_if-same : (o q : Option EndKind) (e f : Effect) → o ≡ q → (o ≡ None → e ≡ f) → deed_if o e ≡ deed_if q f
deed_if-same None q e f h g = ap (deed_if None) (g refl) ∙ ap (λ x. deed_if x f) h
deed_if-same (Some kind) q e f h g = ap (λ x. deed_if x f) h

deed_of-same : (p : Bytes) (m k : ℕ → ℕ) (service : Service) (value : ℕ) (r : ℕ → ℕ) (segment : ℕ) (b c : Block)
    → is_built service ≡ true
    → SameOn p m k → IsWithin (service_uses service r m segment) p → block_words b ≡ block_words c
    → deed_of service value r m segment b ≡ deed_of service value r k segment c
deed_of-same p m k service value r segment b c built s h e =
    deed_if-same (refusal_of service r m segment b) (refusal_of service r k segment c) _ _
    (refusal-same p m k service r segment b c built s h e)
    (λ none. own_effect-same p m k service value r segment b c built s h (allowed_of service service r m segment b refl none))

if_built-is : (o : Option Service) (service : Service) → if_built o ≡ Some service → is_built service ≡ true
if_built-is None service h = absurd (no h)
  where
    no : None ≡ Some service → ⊥
    no k = cc
if_built-is (Some s) service h = by (is_built s) refl h
  where
    by : (b : Bool) → is_built s ≡ b → (if b then Some s else None) ≡ Some service → is_built service ≡ true
    by true e k = let same : s ≡ service = cc in sym (ap is_built same) ∙ e
    by false e k = cc

-- two memories that agree on the bytes that service n uses give the same deed, and it asks the same
pub deed-same : (p : Bytes) (m k : ℕ → ℕ) (n value : ℕ) (r : ℕ → ℕ) (segment : ℕ) (b c : Block) → SameOn p m k
    → IsWithin (uses_at n r m segment) p → block_words b ≡ block_words c
    → deed_at n value r m segment b ≡ deed_at n value r k segment c
deed-same p m k n value r segment b c s h e = by (service_at n) refl h
  where
    by : (o : Option Service) → service_at n ≡ o → IsWithin (uses_if_built o r m segment) p
        → deed_if_built o n value r m segment b ≡ deed_if_built o n value r k segment c
    by None is w = refl
    by (Some service) is w = deed_of-same p m k service value r segment b c (if_built-is (service_of n) service is) s w e

pub ask-same : (p : Bytes) (m k : ℕ → ℕ) (n : ℕ) (r : ℕ → ℕ) (segment : ℕ) (b c : Block) → SameOn p m k
    → IsWithin (uses_at n r m segment) p → block_words b ≡ block_words c → ask_at n r m segment b ≡ ask_at n r k segment c
ask-same p m k n r segment b c s h e = by (service_at n) refl h
  where
    by : (o : Option Service) → service_at n ≡ o → IsWithin (uses_if_built o r m segment) p
        → ask_if_built o r m segment b ≡ ask_if_built o r k segment c
    by None is w = refl
    by (Some service) is w = ap (λ q. ask_if q (own_ask service r))
        (refusal-same p m k service r segment b c (if_built-is (service_of n) service is) s w e)

-- what is known of the effect of any service that is built
pub record Sound (segment : ℕ) (e : Effect) : Type 0 where
  pub even : AreEven e.stores
  pub noted : e.noted ≡ true
  pub small : segment < 32 → e.segment < 32

if-noted : (c : Bool) (e f : Effect) → e.noted ≡ true → f.noted ≡ true → (if c then e else f).noted ≡ true
if-noted true e f h g = h
if-noted false e f h g = g

enter-noted : (r : ℕ → ℕ) (segment : ℕ) → (enter_effect r segment).noted ≡ true
enter-noted r segment = if-noted (has_place segment (r 1) (r 15)) _ _ refl refl

leave-noted : (r m : ℕ → ℕ) (segment end : ℕ) → (leave_effect r m segment end).noted ≡ true
leave-noted r m segment end = if-noted (is_linked segment end) _ _ refl refl

own_effect-noted : (service : Service) (value : ℕ) (r m : ℕ → ℕ) (segment : ℕ) (b : Block) → is_built service ≡ true
    → (own_effect service value r m segment b).noted ≡ true
own_effect-noted Halt value r m segment b built = refl
own_effect-noted Enter value r m segment b built = enter-noted r segment
own_effect-noted Leave value r m segment b built = leave-noted r m segment (r 1 + r 15)
own_effect-noted Turn value r m segment b built = refl
own_effect-noted StoreWord value r m segment b built = refl
own_effect-noted StoreByte value r m segment b built = refl
own_effect-noted StampWord value r m segment b built = refl
own_effect-noted StampByte value r m segment b built = refl
own_effect-noted Sense value r m segment b built = refl
own_effect-noted Emit value r m segment b built = refl
own_effect-noted Open value r m segment b built = refl
own_effect-noted Check value r m segment b built = no-built built
own_effect-noted Close value r m segment b built = no-built built
own_effect-noted Timely value r m segment b built = refl
own_effect-noted Checkpoint value r m segment b built = refl

deed_if-sound : (segment : ℕ) (o : Option EndKind) (e : Effect) → (o ≡ None → Sound segment e)
    → OnDoes (deed_if o e) (Sound segment)
deed_if-sound segment None e h = h refl
deed_if-sound segment (Some kind) e h = tt

pub deed-sound : (n value : ℕ) (r m : ℕ → ℕ) (segment : ℕ) (b : Block) → OnDoes (deed_at n value r m segment b) (Sound segment)
deed-sound n value r m segment b = by (service_at n) refl
  where
    by : (o : Option Service) → service_at n ≡ o → OnDoes (deed_if_built o n value r m segment b) (Sound segment)
    by None is = tt
    by (Some service) is =
        let built = if_built-is (service_of n) service is in
        deed_if-sound segment (refusal_of service r m segment b) _ (λ none.
        let a = allowed_of service service r m segment b refl none in
        record {
          even = own_effect-even service value r m segment b built a;
          noted = own_effect-noted service value (popped r m) m segment b built;
          small = λ l. own_effect-small service value r m segment b built l a;
        })
