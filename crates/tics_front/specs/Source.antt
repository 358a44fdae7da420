-- What a text is as a source: it is a program by the rules of the language, or it is refused.
use Rattle.std.specs.Prelude.{◌≡◌, ℕ, ◌<◌, ◌≤◌, Bool, true, false, if◌then◌else◌, List, [], ◌∷◌, ◌++◌, length, codes, Ok, Err}
use Rattle.std.specs.Fmt.{decimal}
use Rattle.c_lex.specs.declared.token.Token.{Token}
use Rattle.c_lex.specs.declared.item.LexErr.{LexErr}
use Rattle.c_lex.specs.declared.item.LexErr.TheVariants as lex
use Rattle.c_lex.specs.Tokens.{Lexes, Refuses, line_at, line_of_token}
use Rattle.c_tree.specs.declared.unit.Tree.{Tree}
use Rattle.c_tree.specs.Measure.{height, nodes}
use Rattle.c_parse.specs.Externals.{SpellsTree}
use Rattle.core_tree.specs.declared.program.Typed.{Typed}
use Rattle.c_typing.specs.declared.fault.Fault.{Fault}
use Rattle.c_typing.specs.declared.fault.Rule.{Rule}
use Rattle.c_typing.specs.declared.fault.Rule.TheVariants as rule
use Rattle.c_checking.specs.Annotations.{has_annotations}
use Rattle.c_checking.specs.Checked.{checked}
use Rattle.tics_front.specs.declared.fault.SourceFault.{SourceFault}
use Rattle.tics_front.specs.declared.fault.SourceFault.TheVariants.{TooBig, BadByte, OpenComment, BadNumber, BadChar, Syntax, TooManyNodes, Broken}

-- most bytes of a source, height of its tree and nodes in it
abbrev pub most_bytes : ℕ
most_bytes = 262144

abbrev pub most_height : ℕ
most_height = 400

abbrev pub most_nodes : ℕ
most_nodes = 20000

-- The text is these tokens.
pub record IsLexed (text : List ℕ) (tokens : List Token) : Type 0 where
  pub small : length text ≤ most_bytes
  pub lexes : Lexes text 0 tokens

-- The text is tokens that spell this tree, which is not too high.
pub record IsParsed (text : List ℕ) (tree : Tree) : Type 0 where
  pub tokens : List Token
  pub lexed : IsLexed text tokens
  pub spells : SpellsTree tree tokens
  pub low : height tree ≤ most_height

-- This is the tree of the source.
pub record IsRead (text : List ℕ) (tree : Tree) : Type 0 where
  pub parsed : IsParsed text tree
  pub few : nodes tree ≤ most_nodes

-- The text has a tree with annotations about time.
pub record IsAnnotated (text : List ℕ) : Type 0 where
  pub tree : Tree
  pub read : IsRead text tree
  pub has : has_annotations tree ≡ true

-- The text has this tree, without annotations, and it is this program by the rules of the language.
pub record IsTyped (text : List ℕ) (tree : Tree) (typed : Typed) : Type 0 where
  pub read : IsRead text tree
  pub plain : has_annotations tree ≡ false
  pub is : checked tree ≡ Ok typed

-- ---- refusals

-- The text is no tokens for this reason, which stands on this line.
pub record IsUnlexed (text : List ℕ) (reason : ℕ → LexErr) (line : ℕ) : Type 0 where
  pub small : length text ≤ most_bytes
  pub at : ℕ
  pub refuses : Refuses text 0 (reason at)
  pub on : line ≡ line_at text at

-- The text is tokens, and they spell no tree that is low enough; the line is that of one of them, which is named by its
-- number, or of the last one.
pub record IsUnparsed (text : List ℕ) (line : ℕ) : Type 0 where
  pub tokens : List Token
  pub lexed : IsLexed text tokens
  pub spells_none : (tree : Tree) → SpellsTree tree tokens → height tree ≤ most_height → ⊥
  pub named : ℕ
  pub on : line ≡ line_of_token tokens named

-- The tree of the text has too many nodes.
pub record IsOvergrown (text : List ℕ) : Type 0 where
  pub tree : Tree
  pub parsed : IsParsed text tree
  pub many : most_nodes < nodes tree

-- The text has a tree without annotations, whose first fault by the rules of the language is this one.
pub record IsBroken (text : List ℕ) (fault : Fault) : Type 0 where
  pub tree : Tree
  pub read : IsRead text tree
  pub plain : has_annotations tree ≡ false
  pub breaks : checked tree ≡ Err fault

-- A tree without annotations has this fault first, and that is one by the rules of the language.
abbrev pub IsBrokenBy : Tree → SourceFault → Type 0
IsBrokenBy tree (Broken fault) = (has_annotations tree ≡ false) × (checked tree ≡ Err fault)
IsBrokenBy tree fault = ⊥

-- The text is refused for this fault. Which token a syntax fault names is left open.
abbrev pub IsRefused : List ℕ → SourceFault → Type 0
IsRefused text TooBig = most_bytes < length text
IsRefused text (BadByte line) = IsUnlexed text lex.BadByte line
IsRefused text (OpenComment line) = IsUnlexed text lex.OpenComment line
IsRefused text (BadNumber line) = IsUnlexed text lex.BadNumber line
IsRefused text (BadChar line) = IsUnlexed text lex.BadChar line
IsRefused text (Syntax line) = IsUnparsed text line
IsRefused text TooManyNodes = IsOvergrown text
IsRefused text (Broken fault) = IsBroken text fault

-- ---- the texts
abbrev pub refused_line : List ℕ → List ℕ
refused_line code = codes "source " ++ code ++ 10 ∷ []

abbrev pub refused_at : List ℕ → ℕ → List ℕ
refused_at code line = codes "source " ++ code ++ codes " line " ++ decimal line ++ 10 ∷ []

-- the rules in the order of their numbers
abbrev pub rule_code : Rule → List ℕ
rule_code rule.Unknown = codes "E1"
rule_code rule.Twice = codes "E2"
rule_code rule.WrongType = codes "E3"
rule_code rule.NotPlace = codes "E4"
rule_code rule.WrongArgs = codes "E5"
rule_code rule.Incomplete = codes "E6"
rule_code rule.TooBig = codes "E7"
rule_code rule.NoMain = codes "E8"
rule_code rule.ConstWrite = codes "E9"
rule_code rule.NotConstant = codes "E10"

-- that `main` is not defined has no line
abbrev pub has_line : Rule → Bool
has_line rule.NoMain = false
has_line other = true

abbrev pub broken_text : Fault → List ℕ
broken_text fault = if has_line fault.rule then refused_at (rule_code fault.rule) fault.line else refused_line (rule_code fault.rule)

abbrev pub refusal_text : SourceFault → List ℕ
refusal_text TooBig = refused_line (codes "S5")
refusal_text (BadByte line) = refused_at (codes "L1") line
refusal_text (OpenComment line) = refused_at (codes "L2") line
refusal_text (BadNumber line) = refused_at (codes "L3") line
refusal_text (BadChar line) = refused_at (codes "L4") line
refusal_text (Syntax line) = refused_at (codes "P1") line
refusal_text TooManyNodes = refused_line (codes "S4")
refusal_text (Broken fault) = broken_text fault
