-- What the check accepts is lawful.
use Rattle.std.proofs.Common.{◌≡◌, ℕ, ◌≤◌, Bool, true, false, cond, length, Option, Some, None, Ok, sym, ap, subst, ◌∙◌, rules, arith}
use Rattle.c_tree.specs.declared.unit.Tree.{Tree}
use Rattle.c_tree.specs.Measure.{nodes}
use Rattle.core_tree.specs.declared.program.Typed.{Typed}
use Rattle.core_tree.specs.LawfulCore.{LawfulTyped}
use Rattle.c_typing.specs.declared.fault.Rule.TheVariants.{NoMain}
use Rattle.c_typing.specs.Outcome.{Outcome, broken}
use Rattle.c_checking.specs.declared.draft.Draft.{Draft}
use Rattle.c_checking.specs.Numbering.{numbered}
use Rattle.c_checking.specs.Calls.{first_undefined}
use Rattle.c_checking.specs.Checked.{walked, core_of, with_definitions, has_main, with_main, checked}
use Rattle.c_numbering_laws.specs.Whole.{IsLawfulUnnumbered}
use Rattle.c_numbering_laws.proofs.Program.{numbered_lawful}
use Rattle.c_checking_laws.specs.Programs.{WalkedIsLawful, AcceptedIsLawful}
use Rattle.c_checking_laws.proofs.FileScope.{then_is}
use Rattle.c_checking_laws.proofs.Sources.{functions_of_source}
use Rattle.c_checking_laws.proofs.Structs.{structs_of_source}
use Rattle.c_checking_laws.proofs.Names.{names_of_source}
use Rattle.c_checking_laws.proofs.Once.{main_is_there}
use Rattle.c_checking_laws.proofs.Globals.{globals_of_source}
use Rattle.c_checking_laws.proofs.Counts.{few_of_source}
use Rattle.c_checking_laws.proofs.Order.{globals_in_order}

defined_same : (line : Option ℕ) (d last : Draft) → with_definitions line d ≡ Ok last → d ≡ last
defined_same None d last is = cc
defined_same (Some line) d last is = absurd (search rules)

main_by : (b : Bool) (d last : Draft) → cond b (Ok d) (broken NoMain 0) ≡ Ok last → d ≡ last
main_by true d last is = cc
main_by false d last is = absurd (search rules)

at_most : (n m : ℕ) → n ≤ m → m ≤ 20000 → n ≤ 20000
at_most n m p q = omega arith

-- what the walk makes is lawful but for the numbers of its nodes
pub walked_lawful : (tree : Tree) (last : Draft) → WalkedIsLawful tree last
walked_lawful tree last fine few is has =
    let count = few_of_source tree last is in
    let structs = structs_of_source tree last fine is in
    record {
      few_structs = at_most (length last.env.structs) (nodes tree) count.0 few;
      few_functions = at_most (length last.functions) (nodes tree) count.1 few;
      tags = structs.1;
      names = names_of_source tree last is;
      structs = structs.0;
      globals = globals_of_source tree last fine is;
      functions = functions_of_source tree last fine is;
      main = main_is_there last last has;
      order = (globals_in_order tree last is).0;
    }

-- what there is behind each part of the whole
record Parts (tree : Tree) (typed : Typed) : Type 0 where
  draft : Draft
  is_walked : walked tree ≡ Ok draft
  has_its_main : with_main draft ≡ Ok draft
  is_typed : ◌≡◌ {A = Typed} (record { core = numbered (core_of draft) }) typed

parts : (tree : Tree) (typed : Typed) → checked tree ≡ Ok typed → Parts tree typed
unfolding checked
parts tree typed is =
    let t = then_is (walked tree) _ typed is in
    let u = then_is (with_definitions (first_undefined tree) t.first) _ typed t.is_next in
    let v = then_is (with_main u.first) _ typed u.is_next in
    let p : t.first ≡ u.first = defined_same (first_undefined tree) t.first u.first u.is_first in
    let q : u.first ≡ v.first = main_by (has_main (u.first).functions) u.first v.first v.is_first in
    record {
      draft = v.first;
      is_walked = t.is_first ∙ ap Ok (p ∙ q);
      has_its_main = sym (ap with_main q) ∙ v.is_first;
      is_typed = done v.is_next;
    }
  where
    done : {p q : Typed} → ◌≡◌ {A = Outcome Typed} (Ok p) (Ok q) → p ≡ q
    done is = cc

pub accepted_lawful : (tree : Tree) (typed : Typed) → AcceptedIsLawful tree typed
accepted_lawful tree typed fine few is =
    let p = parts tree typed is in
    let w : IsLawfulUnnumbered (core_of p.draft) = walked_lawful tree p.draft fine few p.is_walked p.has_its_main in
    subst (λ (z : Typed). LawfulTyped z) p.is_typed (numbered_lawful (core_of p.draft) w)
