-- A form that is the one of its program serves it, where forms do.
use Rattle.std.proofs.Common.{◌≡◌, sym, subst}
use Rattle.std.specs.Prelude.{Result, IfOk}
use Rattle.std.proofs.lemmas.Result.{IfOk-weaker}
use Rattle.base16.specs.declared.name.NoMemory.{NoMemory}
use Rattle.core_tree.specs.declared.program.Core.{Core}
use Rattle.core_tree.specs.LawfulCore.{LawfulCore}
use Rattle.ir.specs.declared.form.Ir.{Ir}
use Rattle.ir_gen.specs.Form.{form_of}
use Rattle.ir_gen.specs.Plain.{IsPlain}
use Rattle.ir_gen.specs.Serves.{Serves}

pub served : (core : Core) (made : Result Ir NoMemory) → ((x : Core) → LawfulCore x → IsPlain x → Serves x (form_of x))
    → IfOk made (λ ir. ir ≡ form_of core) → LawfulCore core → IsPlain core → IfOk made (λ ir. Serves core ir)
served core made law is lawful plain =
    IfOk-weaker made (λ (ir : Ir). ir ≡ form_of core) (λ (ir : Ir). Serves core ir)
    (λ ir same. subst (λ (z : Ir). Serves core z) (sym same) (law core lawful plain)) is
