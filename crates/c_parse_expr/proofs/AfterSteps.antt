-- What holds after a step, and what a step answers where it is known.
use Rattle.std.proofs.Common.{◌≡◌, ℕ, Bool, true, false, cond, List, [], ◌∷◌, Some, None, refl}
use Rattle.c_lex.specs.declared.token.Token.{Token}
use Rattle.c_lex.specs.declared.token.TokenKind.{TokenKind}
use Rattle.c_lex.specs.declared.token.TokenKind.TheVariants.{Word}
use Rattle.c_parse_expr.specs.declared.wanted.Wanted.{Wanted}
use Rattle.c_parse_expr.specs.Expected.{fits, kind_of}
use Rattle.c_parse_expr.specs.TypeWords.{Tokens}
use Rattle.c_parse_expr.specs.Steps.{Parser, Outcome, and_then, pure, refuse, expect, take_if, word, word_by}
use Rattle.c_parse_expr.proofs.Fitting.{fits_is, it_fits, fits_not}

-- P holds of what was read and of the rest, if something was read
pub data After {A : Type 0} (P : A → Tokens → Type 0) : Outcome A → Type 0 where
  nothing : After P None
  just : {x : A} {rest : Tokens} → P x rest → After P (Some (x, rest))

pub after_then : {A B : Type 0} {Q : A → Tokens → Type 0} {P : B → Tokens → Type 0} {o : Outcome A} {f : A → Parser B}
    → After Q o → ((x : A) (mid : Tokens) → Q x mid → After P (f x mid)) → After P (and_then o f)
after_then nothing k = nothing
after_then (just {x} {rest} q) k = k x rest q

pub after_if : {A : Type 0} {P : A → Tokens → Type 0} {x y : Outcome A} (b : Bool)
    → (b ≡ true → After P x) → (b ≡ false → After P y) → After P (cond b x y)
after_if true t f = t refl
after_if false t f = f refl

pub after_guard : {A : Type 0} {P : A → Tokens → Type 0} (b : Bool) (x : A) (rest : Tokens)
    → (b ≡ true → P x rest) → After P (cond b (Some (x, rest)) None)
after_guard true x rest t = just (t refl)
after_guard false x rest t = nothing

pub weaken : {A : Type 0} {P Q : A → Tokens → Type 0} {o : Outcome A} → After P o → ((x : A) (rest : Tokens) → P x rest → Q x rest) → After Q o
weaken nothing h = nothing
weaken (just {x} {rest} p) h = just (h x rest p)

pub holds : {A : Type 0} {P : A → Tokens → Type 0} {p : A × Tokens} → After P (Some p) → P p.0 p.1
holds (just h) = h

-- the token in front is the one that is wanted
pub data Found (x : Wanted) : Tokens → Tokens → Type 0 where
  found_at : {t : Token} {rest : Tokens} → t.kind ≡ kind_of x → Found x (t ∷ rest) rest

-- it was taken, or nothing
pub data Taken (x : Wanted) : Tokens → Bool → Tokens → Type 0 where
  taken : {t : Token} {rest : Tokens} → t.kind ≡ kind_of x → Taken x (t ∷ rest) true rest
  left : {ts : Tokens} → Taken x ts false ts

-- a name stands in front
pub data Worded : List ℕ → Tokens → Tokens → Type 0 where
  worded : {t : Token} {n : List ℕ} {rest : Tokens} → t.kind ≡ Word n → Worded n (t ∷ rest) rest

pub after_take : (x : Wanted) (ts : Tokens) → After (λ b rest. Taken x ts b rest) (take_if x ts)
unfolding take_if
after_take x [] = just left
after_take x (t ∷ ts) = after_if (fits x t.kind) (λ e. just (taken (fits_is x t.kind e))) (λ e. just left)

expect_turn : (x : Wanted) (ts : Tokens) (b : Bool) (rest : Tokens) → Taken x ts b rest
    → After {A = Unit {0}} (λ _ rest. Found x ts rest) (cond b (pure {A = Unit {0}} tt) (refuse {A = Unit {0}}) rest)
expect_turn x ts true rest (taken is) = just (found_at is)
expect_turn x ts false rest left = nothing

pub after_expect : (x : Wanted) (ts : Tokens) → After (λ _ rest. Found x ts rest) (expect x ts)
unfolding expect
after_expect x ts = after_then (after_take x ts) (expect_turn x ts)

word_by_turn : (t : Token) (ts : Tokens) (k : TokenKind) → t.kind ≡ k → After (λ n rest. Worded n (t ∷ ts) rest) (word_by k ts)
word_by_turn t ts (Word n) is = just (worded is)
word_by_turn t ts _ is = nothing

pub after_word : (ts : Tokens) → After (λ n rest. Worded n ts rest) (word ts)
unfolding word
after_word [] = nothing
after_word (t ∷ ts) = word_by_turn t ts t.kind refl

-- ---- the other way

pub take_found : (x : Wanted) (t : Token) (rest : Tokens) → t.kind ≡ kind_of x → take_if x (t ∷ rest) ≡ Some (true, rest)
unfolding take_if
take_found x t rest is = rw (it_fits x t.kind is) refl

pub expect_found : (x : Wanted) (t : Token) (rest : Tokens) → t.kind ≡ kind_of x → expect x (t ∷ rest) ≡ Some (tt, rest)
unfolding expect
expect_found x t rest is = rw (take_found x t rest is) refl

-- another token comes next, or none
abbrev pub Lacks : Wanted → Tokens → Type 0
Lacks x [] = Unit {0}
Lacks x (t ∷ _) = fits x t.kind ≡ false

pub take_lacking : (x : Wanted) (ts : Tokens) → Lacks x ts → take_if x ts ≡ Some (false, ts)
unfolding take_if
take_lacking x [] h = refl
take_lacking x (t ∷ ts) h = rw h refl

pub other_token : (x : Wanted) (t : Token) (k : TokenKind) → t.kind ≡ k → (k ≡ kind_of x → ⊥) → fits x t.kind ≡ false
other_token x t k is h = fits_not x t.kind (λ e. h (rw is at e))

pub word_found : (t : Token) (n : List ℕ) (rest : Tokens) → t.kind ≡ Word n → word (t ∷ rest) ≡ Some (n, rest)
unfolding word
word_found t n rest is = rw is refl

-- ---- a choice by the token in front

branch_turn : {A : Type 0} {P : A → Tokens → Type 0} {x : Wanted} {ts : Tokens} (p q : Parser A) (b : Bool) (mid : Tokens) → Taken x ts b mid
    → ((rest : Tokens) → Found x ts rest → After P (p rest)) → After P (q ts) → After P (cond b p q mid)
branch_turn p q true mid (taken is) f g = f mid (found_at is)
branch_turn p q false mid left f g = g

pub after_branch : {A : Type 0} {P : A → Tokens → Type 0} (x : Wanted) (ts : Tokens) (p q : Parser A)
    → ((rest : Tokens) → Found x ts rest → After P (p rest)) → After P (q ts) → After P (and_then (take_if x ts) (λ b. cond b p q))
after_branch x ts p q f g = after_then (after_take x ts) (λ b mid is. branch_turn p q b mid is f g)
