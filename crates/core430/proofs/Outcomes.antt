-- What a step came to.
use Rattle.core430.specs.declared.machine.Stepped.{Stepped}
use Rattle.core430.specs.declared.machine.Stepped.TheVariants.{Next, Service, Wild}
use Rattle.core430.specs.Shown.{IsTame, OnWild}

-- where nothing was refused, a fact about refusals holds
pub tame_wild : (s : Stepped) (P : Type 0) → IsTame s → OnWild s P
tame_wild Next P h = tt
tame_wild (Service n) P h = tt
tame_wild (Wild a) P h = absurd h
