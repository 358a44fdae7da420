-- Parts that repeat: what is read is there, and what is there is read.
use Rattle.std.proofs.Common.{◌≡◌, ℕ, zero, suc, ◌+◌, ◌<◌, ◌≤◌, Bool, true, false, List, [], ◌∷◌, ◌++◌, max, length, Some, refl, sym, ap, ◌∙◌, append_assoc, append-nil, subst, arith}
use Rattle.c_lex.specs.declared.token.Token.{Token}
use Rattle.c_lex.specs.declared.token.TokenKind.TheVariants.{Mark}
use Rattle.c_lex.specs.declared.token.Mark.TheVariants as m
use Rattle.c_tree.specs.Measure.{all}
use Rattle.c_parse_expr.specs.declared.wanted.Wanted.TheVariants as want
use Rattle.c_parse_expr.specs.TypeWords.{Tokens}
use Rattle.c_parse_expr.specs.Steps.{Parser}
use Rattle.c_parse_stmt.specs.Repeats.{SpellsCommas, last, further, SpellsMany, no_more, one_more}
use Rattle.c_parse_stmt.specs.Repeats as r
use Rattle.c_parse_expr.proofs.AfterSteps.{After, nothing, just, after_then, after_if, after_branch, weaken, Found, found_at, take_found, Lacks, take_lacking}

-- ---- facts of each part

pub commas_weaken : {A : Type 0} {P Q : A → Tokens → Tokens → Type 0} {xs : List A} {ts rest : Tokens}
    → ((x : A) (ts rest : Tokens) → P x ts rest → Q x ts rest) → SpellsCommas P xs ts rest → SpellsCommas Q xs ts rest
commas_weaken h (last {x} {ts} {rest} a) = last (h x ts rest a)
commas_weaken h (further {x} {t} {ts} {others} a is b) = further (h x ts (t ∷ others) a) is (commas_weaken h b)

pub commas_low : {A : Type 0} {P : A → Tokens → Tokens → Type 0} {xs : List A} {ts rest : Tokens} (f : A → ℕ) (d : ℕ)
    → ((x : A) (ts rest : Tokens) → P x ts rest → f x ≤ d) → SpellsCommas P xs ts rest → all max f xs ≤ d
commas_low f d h (last {x} {ts} {rest} a) = omega (arith, h x ts rest a)
commas_low f d h (further {x} {t} {ts} {others} a is b) = omega (arith, h x ts (t ∷ others) a, commas_low f d h b)

pub many_weaken : {A : Type 0} {P Q : A → Tokens → Tokens → Type 0} {xs : List A} {ts rest : Tokens}
    → ((x : A) (ts rest : Tokens) → P x ts rest → Q x ts rest) → SpellsMany P xs ts rest → SpellsMany Q xs ts rest
many_weaken h no_more = no_more
many_weaken h (one_more {x} {ts} {mid} a b) = one_more (h x ts mid a) (many_weaken h b)

pub many_low : {A : Type 0} {P : A → Tokens → Tokens → Type 0} {xs : List A} {ts rest : Tokens} (f : A → ℕ) (d : ℕ)
    → ((x : A) (ts rest : Tokens) → P x ts rest → f x ≤ d) → SpellsMany P xs ts rest → all max f xs ≤ d
many_low f d h no_more = omega arith
many_low f d h (one_more {x} {ts} {mid} a b) = omega (arith, h x ts mid a, many_low f d h b)

pub commas_shorter : {A : Type 0} {P : A → Tokens → Tokens → Type 0} {xs : List A} {ts rest : Tokens}
    → ((x : A) (ts rest : Tokens) → P x ts rest → length rest < length ts) → SpellsCommas P xs ts rest → length rest + length xs ≤ length ts
commas_shorter h (last {x} {ts} {rest} a) = omega (arith, h x ts rest a)
commas_shorter h (further {x} {t} {ts} {others} a is b) = omega (arith, h x ts (t ∷ others) a, commas_shorter h b)

pub many_shorter : {A : Type 0} {P : A → Tokens → Tokens → Type 0} {xs : List A} {ts rest : Tokens}
    → ((x : A) (ts rest : Tokens) → P x ts rest → length rest < length ts) → SpellsMany P xs ts rest → length rest + length xs ≤ length ts
many_shorter h no_more = omega arith
many_shorter h (one_more {x} {ts} {mid} a b) = omega (arith, h x ts mid a, many_shorter h b)

-- ---- what is read is there

module _ {A : Type 0} (one : Parser A) (P : A → Tokens → Tokens → Type 0) (sound : (ts : Tokens) → After (λ x rest. P x ts rest) (one ts)) where
  record IsCommas (found : List A) (ts : Tokens) (found_all : List A) (rest : Tokens) : Type 0 where
    xs : List A
    is : found_all ≡ found ++ xs
    commas : SpellsCommas P xs ts rest

  commas_more : {x : A} {found xs : List A} {ts mid others rest : Tokens} → P x ts mid → Found (want.Mark m.Comma) mid others → IsCommas (found ++ x ∷ []) others xs rest
      → IsCommas found ts xs rest
  commas_more {x} {found} a (found_at is) l = record { xs = x ∷ l.xs; is = l.is ∙ append_assoc found (x ∷ []) l.xs; commas = further a is l.commas }

  commas_found : (n : ℕ) (found : List A) (ts : Tokens) → After (IsCommas found ts) (r.commas one n found ts)
  unfolding r.commas
  commas_found zero found ts = nothing
  commas_found (suc n) found ts = after_then (sound ts) (λ x mid a. after_branch (want.Mark m.Comma) mid _ _
      (λ behind f. weaken (commas_found n (found ++ x ∷ []) behind) (λ xs rest l. commas_more a f l))
      (just (record { xs = x ∷ []; is = refl; commas = last a })))

  pub commas_sound : (ts : Tokens) → After (λ xs rest. SpellsCommas P xs ts rest) (r.all_commas one ts)
  unfolding r.all_commas
  commas_sound ts = weaken (commas_found (length ts) [] ts) (λ xs rest l. subst (λ z. SpellsCommas P z ts rest) (sym l.is) l.commas)

  others_made : {x : A} {xs : List A} {ts mid others rest : Tokens} → P x ts mid → Found (want.Mark m.Comma) mid others → SpellsCommas P xs others rest → SpellsCommas P (x ∷ xs) ts rest
  others_made a (found_at is) b = further a is b

  others_sound : {x : A} {ts mid behind : Tokens} → P x ts mid → Found (want.Mark m.Comma) mid behind → After (λ xs rest. SpellsCommas P xs ts rest) (r.others one x behind)
  unfolding r.others
  others_sound {behind} a f = after_then (commas_sound behind) (λ xs rest b. just (others_made a f b))

  pub more_commas_sound : (x : A) (ts mid : Tokens) → P x ts mid → After (λ xs rest. SpellsCommas P xs ts rest) (r.more_commas one x mid)
  unfolding r.more_commas
  more_commas_sound x ts mid a = after_branch (want.Mark m.Comma) mid _ _ (λ behind f. others_sound a f) (just (last a))

  record IsMany (found : List A) (ts : Tokens) (found_all : List A) (rest : Tokens) : Type 0 where
    xs : List A
    is : found_all ≡ found ++ xs
    many : SpellsMany P xs ts rest

  many_found : (goes : Tokens → Bool) (n : ℕ) (found : List A) (ts : Tokens) → After (IsMany found ts) (r.many one goes n found ts)
  unfolding r.many
  many_found goes zero found ts = just (record { xs = []; is = sym (append-nil found); many = no_more })
  many_found goes (suc n) found ts = after_if (goes ts)
      (λ h. after_then (sound ts) (λ x mid a. weaken (many_found goes n (found ++ x ∷ []) mid) (λ xs rest l. record {
        xs = x ∷ l.xs;
        is = l.is ∙ append_assoc found (x ∷ []) l.xs;
        many = one_more a l.many;
      })))
      (λ h. just (record { xs = []; is = sym (append-nil found); many = no_more }))

  pub many_sound : (goes : Tokens → Bool) (ts : Tokens) → After (λ xs rest. SpellsMany P xs ts rest) (r.all_many one goes ts)
  unfolding r.all_many
  many_sound goes ts = weaken (many_found goes (length ts) [] ts) (λ xs rest l. subst (λ z. SpellsMany P z ts rest) (sym l.is) l.many)

-- each part may end before what comes behind it
pub data Apart {A : Type 0} (P : A → Tokens → Tokens → Type 0) (Stops : Tokens → Type 0) : List A → Tokens → Tokens → Type 0 where
  at_end : {ts : Tokens} → Apart P Stops [] ts ts
  apart : {x : A} {xs : List A} {ts mid rest : Tokens} → P x ts mid → Stops mid → Apart P Stops xs mid rest → Apart P Stops (x ∷ xs) ts rest

apart_shorter : {A : Type 0} {P : A → Tokens → Tokens → Type 0} {Stops : Tokens → Type 0} {xs : List A} {ts rest : Tokens}
    → ((x : A) (ts rest : Tokens) → P x ts rest → length rest < length ts) → Apart P Stops xs ts rest → length rest + length xs ≤ length ts
apart_shorter h at_end = omega arith
apart_shorter h (apart {x} {ts} {mid} a s b) = omega (arith, h x ts mid a, apart_shorter h b)

-- parts that end by themselves
abbrev pub Anywhere : Tokens → Type 0
Anywhere _ = Unit {0}

pub many_apart : {A : Type 0} {P : A → Tokens → Tokens → Type 0} {xs : List A} {ts rest : Tokens} → SpellsMany P xs ts rest → Apart P Anywhere xs ts rest
many_apart no_more = at_end
many_apart (one_more a b) = apart a tt (many_apart b)

-- ---- what is there is read, where what comes next lets each part end

module _ {A : Type 0} (one : Parser A) (P : A → Tokens → Tokens → Type 0) (f : A → ℕ) (d : ℕ) (Stops : Tokens → Type 0)
    (shorter : (x : A) (ts rest : Tokens) → P x ts rest → length rest < length ts)
    (again : (x : A) (ts rest : Tokens) → P x ts rest → f x ≤ d → Stops rest → one ts ≡ Some (x, rest)) where
  module _ (at_comma : (t : Token) (rest : Tokens) → t.kind ≡ Mark m.Comma → Stops (t ∷ rest)) where
    commas_back : (n : ℕ) (found xs : List A) (ts rest : Tokens) → SpellsCommas P xs ts rest → length xs ≤ n → all max f xs ≤ d → Stops rest → Lacks (want.Mark m.Comma) rest
        → r.commas one n found ts ≡ Some (found ++ xs, rest)
    unfolding r.commas
    commas_back zero found xs ts rest (last a) long low stops un = absurd (omega arith)
    commas_back zero found xs ts rest (further a is b) long low stops un = absurd (omega arith)
    commas_back (suc n) found xs ts rest (last {x} a) long low stops un =
        let e = again x ts rest a (omega arith) stops in rw (e, take_lacking (want.Mark m.Comma) rest un) refl
    commas_back (suc n) found xs ts rest (further {x} {xs = behind} {t} {others} a is b) long low stops un =
        let e = again x ts (t ∷ others) a (omega arith) (at_comma t others is) in
        rw (e, take_found (want.Mark m.Comma) t others is)
        (commas_back n (found ++ x ∷ []) behind others rest b (omega arith) (omega arith) stops un ∙ ap (λ z. Some (z, rest)) (append_assoc found (x ∷ []) behind))

    pub commas_again : (xs : List A) (ts rest : Tokens) → SpellsCommas P xs ts rest → all max f xs ≤ d → Stops rest → Lacks (want.Mark m.Comma) rest → r.all_commas one ts ≡ Some (xs, rest)
    unfolding r.all_commas
    commas_again xs ts rest a low stops un = commas_back (length ts) [] xs ts rest a (omega (arith, commas_shorter shorter a)) low stops un

  -- a part in front makes the loop go on
  module _ (goes : Tokens → Bool) (goes_on : (x : A) (ts rest : Tokens) → P x ts rest → goes ts ≡ true) where
    many_back : (n : ℕ) (found xs : List A) (ts rest : Tokens) → Apart P Stops xs ts rest → length xs ≤ n → all max f xs ≤ d → goes rest ≡ false → r.many one goes n found ts ≡ Some (found ++ xs, rest)
    unfolding r.many
    many_back zero found xs ts rest at_end long low h = ap (λ z. Some (z, rest)) (sym (append-nil found))
    many_back zero found xs ts rest (apart a s b) long low h = absurd (omega arith)
    many_back (suc n) found xs ts rest at_end long low h = rw h (ap (λ z. Some (z, rest)) (sym (append-nil found)))
    many_back (suc n) found xs ts rest (apart {x} {xs = behind} {mid} a s b) long low h =
        let g = goes_on x ts mid a in let e = again x ts mid a (omega arith) s in
        rw (g, e) (many_back n (found ++ x ∷ []) behind mid rest b (omega arith) (omega arith) h ∙ ap (λ z. Some (z, rest)) (append_assoc found (x ∷ []) behind))

    pub many_again : (xs : List A) (ts rest : Tokens) → Apart P Stops xs ts rest → all max f xs ≤ d → goes rest ≡ false → r.all_many one goes ts ≡ Some (xs, rest)
    unfolding r.all_many
    many_again xs ts rest a low h = many_back (length ts) [] xs ts rest a (omega (arith, apart_shorter shorter a)) low h

-- ---- behind the first

pub more_commas_none : {A : Type 0} (one : Parser A) (x : A) (rest : Tokens) → Lacks (want.Mark m.Comma) rest → r.more_commas one x rest ≡ Some (x ∷ [], rest)
unfolding r.more_commas
more_commas_none one x rest un = rw (take_lacking (want.Mark m.Comma) rest un) refl

pub more_commas_some : {A : Type 0} (one : Parser A) (x : A) (xs : List A) (t : Token) (others rest : Tokens) → t.kind ≡ Mark m.Comma → r.all_commas one others ≡ Some (xs, rest)
    → r.more_commas one x (t ∷ others) ≡ Some (x ∷ xs, rest)
unfolding r.more_commas r.others
more_commas_some one x xs t others rest is e = rw (take_found (want.Mark m.Comma) t others is, e) refl
