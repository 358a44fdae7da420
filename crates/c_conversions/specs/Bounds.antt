-- Which structs a type may name.
use Rattle.std.specs.Prelude.{ℕ, Bool, true, false, length}
use Rattle.c_typing.specs.declared.environment.Env.{Env}
use Rattle.c_typing.specs.Scopes.{tags}

-- those below this number: behind a pointer all whose tags are known, elsewhere the complete ones
abbrev pub bound : Env → Bool → ℕ
bound env true = tags env
bound env false = length env.structs
