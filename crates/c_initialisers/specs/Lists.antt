-- What brace lists put into the scalars of an object, told by numbers of scalars.
use Rattle.std.specs.Prelude.{◌≡◌, ℕ, ◌+◌, ◌-◌, ◌<◌, ◌≤◌, Bool, true, false, ◌&&◌, if◌then◌else◌, List, [], ◌∷◌, ◌++◌, length, map, take, drop, slice_get, pos, Option, Some, None, Result, Ok, Err}
use Rattle.c_tree.specs.declared.expression.Expr.{Expr as Expression}
use Rattle.c_tree.specs.declared.declarations.Initial.{Initial as Source}
use Rattle.core_tree.specs.declared.types.Struct.{Struct}
use Rattle.core_tree.specs.declared.expressions.Expr.{Expr}
use Rattle.core_tree.specs.declared.program.Initial.{Initial as Value}
use Rattle.core_tree.specs.declared.program.Initial.TheVariants as initial
use Rattle.c_typing.specs.declared.fault.Stop.{Stop}
use Rattle.c_typing.specs.declared.fault.Stop.TheVariants.{Broken, NoMemory}
use Rattle.c_typing.specs.Outcome.{Outcome, ◌>>=◌}
use Rattle.c_checking.specs.Declarators.{value_of}
use Rattle.c_checking.specs.Initialisers as spec
use Rattle.c_checking.specs.Initialisers.{Leaf, Filled, Given, Item, leaves, any, is_constant}
use Rattle.c_initialisers.specs.declared.lists.Put.{Put}
use Rattle.c_initialisers.specs.declared.lists.Object.{Object}
use Rattle.c_initialisers.specs.declared.lists.Cursor.{Cursor}
use Rattle.c_initialisers.specs.Scalars.{IsCounted}

abbrev pub given_of : Option Put → Option Given
given_of None = None
given_of (Some p) = Some (record { value = p.value; line = p.line })

abbrev pub all_given : List (Option Put) → List (Option Given)
all_given puts = map given_of puts

-- ---- the object

-- which values may stand in it
abbrev pub may_of : List Struct → Bool → Expr → Bool
may_of structs true = is_constant structs
may_of structs false = any

abbrev pub may : Object → Expr → Bool
may o = may_of o.env.now.structs o.constant

abbrev pub all_leaves : Object → List Leaf
all_leaves o = leaves o.env.now.structs o.ty.now

pub record IsObject (o : Object) : Type 0 where
  pub counted : IsCounted o.known o.env.now.structs
  pub whole : length o.known ≡ length o.env.now.structs
  pub total : o.total ≡ length (all_leaves o)

abbrev pub item : Object → Source → Item
item o i = spec.item o.env.now (may o) i

abbrev pub each : Object → List Source → Item
each o items = spec.each (map (item o) items)

-- an expression that is an item
abbrev pub assigned : Object → Expression → Item
assigned o e = λ leaves. value_of o.env.now e >>= λ v. Ok (spec.put e.line v leaves)

-- ---- the scalars in front of a cursor

-- where so many of the objects that begin at the first scalar are around them all
abbrev pub opened : ℕ → List Leaf → List Leaf
opened outer [] = []
opened outer (l ∷ ls) = record { ty = l.ty; begins = drop outer l.begins } ∷ ls

abbrev pub ahead : List Leaf → Cursor → List Leaf
ahead all c = opened c.outer (take (c.to - c.from) (drop c.from all))

-- ---- what items come to behind what others came to

abbrev pub behind : List (Option Given) → Bool → Outcome Filled → Outcome Filled
behind found fits rest =
    rest >>= λ b. Ok (record { values = found ++ b.values; rest = b.rest; fits = fits && b.fits })

abbrev pub Fills : List Leaf → Outcome Filled → Result Cursor Stop → List (Option Put) → Type 0
Fills all outcome (Ok c) puts = outcome ≡ Ok (record { values = all_given puts; rest = ahead all c; fits = c.fits })
Fills all outcome (Err (Broken f)) puts = outcome ≡ Err f
Fills all outcome (Err NoMemory) puts = Unit {0}

-- ---- what stands in a scalar

abbrev pub value_given : ℕ → Option Expr → Option Given
value_given line None = None
value_given line (Some e) = Some (record { value = e; line = line })

-- ---- lists that are judged

-- the line of a value that may not stand there
abbrev pub bad_in : (Expr → Bool) → Option Given → Option ℕ
bad_in may None = None
bad_in may (Some v) = if may v.value then None else Some v.line

abbrev pub or_else : Option ℕ → Option ℕ → Option ℕ
or_else None other = other
or_else (Some line) other = Some line

-- that of the first
abbrev pub first_bad : (Expr → Bool) → List (Option Given) → Option ℕ
first_bad may [] = None
first_bad may (v ∷ more) = or_else (bad_in may v) (first_bad may more)

-- what a list comes to behind the first so many values: those with what it puts
abbrev pub judged : Object → ℕ → ℕ → Cursor → List (Option Put) → Outcome (List (Option Given))
judged o line start c puts =
    spec.judged (may o) line (record { values = drop start (all_given puts); rest = ahead (all_leaves o) c; fits = c.fits })
    >>= λ vs. Ok (take start (all_given puts) ++ vs)

abbrev pub Puts : Outcome (List (Option Given)) → Result (Unit {0}) Stop → List (Option Put) → Type 0
Puts outcome (Ok _) puts = outcome ≡ Ok (all_given puts)
Puts outcome (Err (Broken f)) puts = outcome ≡ Err f
Puts outcome (Err NoMemory) puts = Unit {0}

-- the cursor where an item had no scalar or no object
abbrev pub unfit : Cursor → Cursor
unfit c = record { from = c.from; to = c.to; outer = c.outer; fits = false }

-- a list with no object: only what stands in it is walked
abbrev pub walked : Object → List Source → Cursor → Outcome Cursor
walked o items c = each o items [] >>= λ f. Ok (unfit c)

-- inside an object of so many scalars that begins at the first, and behind it
pub record IsParted (c : Cursor) (count : ℕ) (inner after : Cursor) : Type 0 where
  pub some : 0 < count
  pub fit : c.from + count ≤ c.to
  pub inner_is : inner ≡ record { from = c.from; to = c.from + count; outer = c.outer + 1; fits = true }
  pub after_is : after ≡ record { from = c.from + count; to = c.to; outer = 0; fits = c.fits }

-- what a whole initialiser puts
abbrev pub HasPut : Outcome Filled → Result (List (Option Put)) Stop → Type 0
HasPut outcome (Ok puts) = (outcome >>= λ f. Ok f.values) ≡ Ok (all_given puts)
HasPut outcome (Err (Broken f)) = outcome ≡ Err f
HasPut outcome (Err NoMemory) = Unit {0}

-- ---- what each scalar begins with

-- the scalar of a number
abbrev pub initial_from : List Struct → Option (Option Given) → Value
initial_from structs None = initial.Int (pos 0)
initial_from structs (Some v) = spec.initial_in structs v

abbrev pub initial_at : List Struct → List (Option Given) → ℕ → Value
initial_at structs vs i = initial_from structs (slice_get vs i)
