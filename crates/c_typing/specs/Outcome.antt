-- What a part of a source is, or the first fault in it.
use Rattle.std.specs.Prelude.{◌≡◌, ℕ, Result, Ok, Err}
use Rattle.c_typing.specs.declared.fault.Rule.{Rule}
use Rattle.c_typing.specs.declared.fault.Rule.TheVariants.{NotConstant}
use Rattle.c_typing.specs.declared.fault.Fault.{Fault}
use Rattle.c_typing.specs.declared.fault.Stop.{Stop}
use Rattle.c_typing.specs.declared.fault.Stop.TheVariants.{Broken, NoMemory}

abbrev pub Outcome : Type 0 → Type 0
Outcome A = Result A Fault

-- one part after another: the first fault counts
infixl 10 ◌>>=◌
abbrev pub ◌>>=◌ : {A B : Type 0} → Outcome A → (A → Outcome B) → Outcome B
Err f >>= next = Err f
Ok a >>= next = next a

abbrev pub broken : {A : Type 0} → Rule → ℕ → Outcome A
broken rule line = Err (record { rule = rule; line = line })

-- what the rules of a node say, at its line
abbrev pub at : {A : Type 0} → ℕ → Result A Rule → Outcome A
at line (Ok a) = Ok a
at line (Err rule) = broken rule line

-- the line of a rule that an expression breaks: its own, but that of the channel where a channel is not constant
abbrev pub rule_line : ℕ → ℕ → Rule → ℕ
rule_line own channel NotConstant = channel
rule_line own channel rule = own

-- what the rules of an expression say, given its line and that of its first argument
abbrev pub told : {A : Type 0} → ℕ → ℕ → Result A Rule → Outcome A
told own channel (Ok a) = Ok a
told own channel (Err rule) = broken rule (rule_line own channel rule)

-- what a function of the check answers, unless memory runs out
abbrev pub Answers : {A : Type 0} → Outcome A → Result A Stop → Type 0
Answers outcome (Ok a) = outcome ≡ Ok a
Answers outcome (Err (Broken f)) = outcome ≡ Err f
Answers outcome (Err NoMemory) = Unit {0}
