-- What is found in the parts of a function's body: calls of functions that have none of these names, and annotations.
use Rattle.std.specs.Prelude.{ℕ, Bool, List, Option}
use Rattle.c_tree.specs.declared.statements.BlockItem.{BlockItem, fold-BlockItem}
use Rattle.c_tree.specs.declared.statements.Group.{Group, fold-Group}
use Rattle.c_tree.specs.declared.statements.Statement.{Statement}
use Rattle.c_tree.specs.declared.statements.StatementKind.{fold-StatementKind}
use Rattle.c_checking.specs.Calls as calls
use Rattle.c_checking.specs.Annotations as annotations

abbrev pub in_statement : List (List ℕ) → Statement → Option ℕ
in_statement names x =
    fold-StatementKind (Option ℕ) (Option ℕ) (Option ℕ) (Option ℕ) (Option ℕ) (calls.item_step names) (calls.statement_step names)
    (λ c. calls.first_of c.items) (λ g. calls.or_later (calls.in_labels names g.labels) (calls.first_of g.statements)) (λ y. y.kind) x.kind

abbrev pub in_item : List (List ℕ) → BlockItem → Option ℕ
in_item names =
    fold-BlockItem (Option ℕ) (Option ℕ) (Option ℕ) (Option ℕ) (Option ℕ) (calls.item_step names) (calls.statement_step names)
    (λ c. calls.first_of c.items) (λ g. calls.or_later (calls.in_labels names g.labels) (calls.first_of g.statements)) (λ y. y.kind)

abbrev pub in_group : List (List ℕ) → Group → Option ℕ
in_group names =
    fold-Group (Option ℕ) (Option ℕ) (Option ℕ) (Option ℕ) (Option ℕ) (calls.item_step names) (calls.statement_step names)
    (λ c. calls.first_of c.items) (λ g. calls.or_later (calls.in_labels names g.labels) (calls.first_of g.statements)) (λ y. y.kind)

abbrev pub statement_has : Statement → Bool
statement_has x =
    fold-StatementKind Bool Bool Bool Bool Bool annotations.item_step annotations.statement_step
    (λ c. annotations.any_of c.items) (λ g. annotations.any_of g.statements) (λ y. y.kind) x.kind

abbrev pub item_has : BlockItem → Bool
item_has =
    fold-BlockItem Bool Bool Bool Bool Bool annotations.item_step annotations.statement_step
    (λ c. annotations.any_of c.items) (λ g. annotations.any_of g.statements) (λ y. y.kind)

abbrev pub group_has : Group → Bool
group_has =
    fold-Group Bool Bool Bool Bool Bool annotations.item_step annotations.statement_step
    (λ c. annotations.any_of c.items) (λ g. annotations.any_of g.statements) (λ y. y.kind)
