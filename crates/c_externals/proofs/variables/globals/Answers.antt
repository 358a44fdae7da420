use Rattle.std.proofs.Common.{◌≡◌, Err, refl}
use Rattle.std.proofs.lemmas.Result.{err_from_is_err_and}
use Rattle.c_checking.specs.Declarators.{base_of}
use Rattle.c_externals.proofs.Turns.{globals_stop}
use Rattle.c_externals.proofs.variables.globals.Goals as goal

pub returns-in_err-global : goal.returns-in_err-global
returns-in_err-global c =
    let p = err_from_is_err_and c.from_residual.result c.from_residual.ensures.1 in
    let told : c.from_residual.result ≡ Err c.in_err-global.field-0.0 = rw (p.1, p.2) refl in
    globals_stop (λ env. base_of env c.args.sp.now) c.args.inits.now c.loop-init.init-index c.init-item.result
    _ c.loop-init.draft c.global.new.draft _ c.in_err-global.field-0.0 c.from_residual.result
    c.loop-init.invariant c.loop-init-test.true c.init-item.is c.in_err-global.ensures told
