-- What of a source its text gives, and what the search for calls.
use Rattle.std.specs.Prelude.{◌≡◌, ℕ, nat_le, Bool, true, List, [], ◌∷◌, None}
use Rattle.c_lex.specs.declared.token.TokenKind.{TokenKind}
use Rattle.c_lex.specs.declared.token.TokenKind.TheVariants.{Number, Char}
use Rattle.c_lex.specs.Spelling.{Text}
use Rattle.c_lex.specs.Tokens.{Lexes}
use Rattle.c_tree.specs.declared.unit.Tree.{Tree}
use Rattle.c_parse_expr.specs.TypeWords.{Tokens}
use Rattle.c_parse.specs.Externals.{SpellsTree}
use Rattle.c_checking.specs.Calls.{first_undefined}
use Rattle.c_checking_laws.specs.Fitting.{each_is, external_fits, tree_fits}

-- a token as a text has it: numbers are at most 65,535 and characters are bytes
abbrev pub kind_in_range : TokenKind → Bool
kind_in_range (Number n decimal suffixed) = nat_le n 65535
kind_in_range (Char c) = nat_le c 255
kind_in_range _ = true

abbrev pub InRange : Tokens → Type 0
InRange [] = Unit {0}
InRange (t ∷ ts) = (kind_in_range t.kind ≡ true) × InRange ts

-- any name may be called
abbrev pub any : List ℕ → Bool
any name = true

-- all that is asked of a source but what it calls
abbrev pub text_fits : Tree → Bool
text_fits tree = each_is (external_fits any) tree.externals

-- what a text spells fits but for what it calls
abbrev pub TextFits : Tree → Tokens → Type 0
TextFits tree ts = InRange ts → SpellsTree tree ts → text_fits tree ≡ true

-- what fits but for what it calls, and calls only what is defined, fits
abbrev pub CallsFit : Tree → Type 0
CallsFit tree = text_fits tree ≡ true → first_undefined tree ≡ None → tree_fits tree ≡ true

-- what a text spells fits where it calls only what is defined
abbrev pub SpelledFits : Tree → Tokens → Type 0
SpelledFits tree ts = InRange ts → SpellsTree tree ts → first_undefined tree ≡ None → tree_fits tree ≡ true

-- the tokens of a text are in range
abbrev pub LexedInRange : Text → ℕ → Tokens → Type 0
LexedInRange source at ts = Lexes source at ts → InRange ts

-- the tree of a text fits where it calls only what is defined
abbrev pub SourceFits : Text → Tree → Tokens → Type 0
SourceFits source tree ts = Lexes source 0 ts → SpellsTree tree ts → first_undefined tree ≡ None → tree_fits tree ≡ true
