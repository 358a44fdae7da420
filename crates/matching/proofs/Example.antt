-- A worked example, by hand: a state with three variables, two locals, a stamp, an output and an open block, and words that
-- match it.
use Rattle.std.proofs.Common.{◌≡◌, ℕ, ◌+◌, ◌%◌, false, ℤ, pos, negsuc, Some, None, List, [], ◌∷◌, refl, sym, ap, ◌∙◌, subst, rules}
use Rattle.std.specs.Prelude.{codes, nat_eq, if◌then◌else◌}
use Rattle.base16.specs.Integer.{wrapped}
use Rattle.base16.specs.Memory.{put}
use Rattle.base16.specs.declared.image.Kind.TheVariants as kind
use Rattle.base16.specs.declared.integer.IntType.TheVariants as int
use Rattle.c_values.specs.declared.state.Call.{Call}
use Rattle.c_values.specs.declared.state.Object.{Object}
use Rattle.c_values.specs.declared.state.Saved.{Saved}
use Rattle.c_values.specs.declared.state.State.{State}
use Rattle.c_values.specs.declared.value.Value.TheVariants.{Int, Pointer, Undefined}
use Rattle.core430.specs.Bytes.{byte_at}
use Rattle.core_tree.specs.Data.{global_address, stamp_address}
use Rattle.core_tree.specs.Heights.{local_offset}
use Rattle.core_tree.specs.declared.program.Core.{Core}
use Rattle.core_tree.specs.declared.program.Function.{Function}
use Rattle.core_tree.specs.declared.types.Ty.{the_lemmas as type_lemmas}
use Rattle.core_tree.specs.declared.types.Ty.TheVariants as ty
use Rattle.ideal430.specs.Service.{Noted}
use Rattle.matching.specs.Matches.{WordStands, OutputsStand, WordsAre, put_back, Matches}

-- int g; char c; @expires_after(1 s) int t; int main(void){int i; int *p; ..}
abbrev function : Function
function = record {
  name = codes "main";
  params = [];
  locals = ty.Num int.Int ∷ ty.Pointer (ty.Num int.Int) false ∷ [];
  result = ty.Num int.Int;
  body = [];
  node = 0;
  line = 1;
}

abbrev core : Core
core = record {
  structs = [];
  globals = record { name = codes "g"; ty = ty.Num int.Int; lifetime = None; init = []; before = 0; line = 1 }
      ∷ record { name = codes "c"; ty = ty.Num int.Char; lifetime = None; init = []; before = 0; line = 1 }
      ∷ record { name = codes "t"; ty = ty.Num int.Int; lifetime = Some 1000; init = []; before = 0; line = 1 } ∷ [];
  functions = function ∷ [];
}

g_stands : global_address core 0 ≡ 0x4000
unfolding global_address
g_stands = search (rules, type_lemmas)

c_stands : global_address core 1 ≡ 0x4002
unfolding global_address
c_stands = search (rules, type_lemmas)

-- behind a pad byte
t_stands : global_address core 2 ≡ 0x4004
unfolding global_address
t_stands = search (rules, type_lemmas)

stamp_stands : stamp_address core 0 ≡ 0x4006
unfolding stamp_address
stamp_stands = search (rules, type_lemmas)

p_stands : local_offset core.structs function 1 ≡ 2
p_stands = search (rules, type_lemmas)

-- g is 9 as the block opens; then -2 is stored there and 5 is emitted. c is 'A', t and i are not defined, p points to g, and
-- the stamp of t is 70,000 ms.
abbrev variables : ℤ → List Object
variables g = record { number = 0; cells = record { offset = 0; kind = kind.Int; value = Int g } ∷ [] }
    ∷ record { number = 1; cells = record { offset = 0; kind = kind.Char; value = Int (pos 65) } ∷ [] }
    ∷ record { number = 2; cells = record { offset = 0; kind = kind.Int; value = Undefined } ∷ [] } ∷ []

abbrev call : Call
call = record {
  function = 0;
  frame = 0x20F4;
  locals = record { number = 3; cells = record { offset = 0; kind = kind.Int; value = Undefined } ∷ [] }
      ∷ record { number = 4; cells = record { offset = 0; kind = kind.Pointer; value = Pointer 0 0 } ∷ [] } ∷ [];
}

abbrev parts : ℤ → List ℕ → ℕ → Saved
parts g outputs words =
    record { globals = variables g; calls = call ∷ []; stamps = Some 70000 ∷ []; outputs = outputs; words = words }

abbrev s : State
s = record {
  globals = variables (negsuc 1);
  calls = call ∷ [];
  stamps = Some 70000 ∷ [];
  outputs = 5 ∷ [];
  block = Some (parts (pos 9) [] 3);
  marks = 7;
}

-- the bytes of which the state says nothing hold anything
m : ℕ → ℕ
m a =
    if nat_eq a 0x1A00 then 1
    else (if nat_eq a 0x1A02 then 5
    else (if nat_eq a 0x20F4 then 0x7777
    else (if nat_eq a 0x20F6 then 0x4000
    else (if nat_eq a 0x4000 then 0xFFFE
    else (if nat_eq a 0x4002 then 0x7741
    else (if nat_eq a 0x4004 then 0x7777
    else (if nat_eq a 0x4006 then 0x1170
    else (if nat_eq a 0x4008 then 1 else 0))))))))

abbrev noted : List Noted
noted = record { address = 0x4000; old = 9 } ∷ record { address = 0x1A02; old = 0x7777 }
    ∷ record { address = 0x1A00; old = 0 } ∷ []

word_there : (k : ℕ → ℕ) (a b v w : ℕ) → a ≡ b → v ≡ w → WordStands k b w → WordStands k a v
word_there k a b v w e f h = subst (λ x. WordStands k x v) (sym e) (subst (λ x. WordStands k b x) (sym f) h)

parts_stand : (k : ℕ → ℕ) (g : ℤ) (outputs : List ℕ) (words : ℕ) → WordStands k 0x4000 (wrapped g) → byte_at k 0x4002 ≡ 65
    → WordStands k 0x20F6 0x4000 → WordStands k 0x4006 0x1170 → WordStands k 0x4008 1 → OutputsStand k outputs
    → WordsAre core (parts g outputs words) k
parts_stand k g outputs words g_is c_is p_is low high outs = record {
  objects = (
    (word_there k _ 0x4000 (wrapped g) (wrapped g) (ap (λ x. x + 0) g_stands) refl g_is, tt),
    (
      (ap (λ x. byte_at k (x + 0)) c_stands ∙ c_is, tt),
      (
        (tt, tt),
        (
          (tt, tt),
          (
            (word_there k _ 0x20F6 _ 0x4000 (ap (λ x. 0x20F4 + x + 0) p_stands) (ap (λ x. (x + 0) % 65536) g_stands) p_is, tt),
            tt,
          ),
        ),
      ),
    ),
  );
  stamps = (
    record {
      low = word_there k _ 0x4006 0x1170 0x1170 stamp_stands refl low;
      high = word_there k _ 0x4008 1 1 (ap (λ x. x + 2) stamp_stands) refl high;
    },
    tt,
  );
  outputs = outs;
}

the_state_is_matched : Matches core s m (Some noted)
unfolding m put
the_state_is_matched = record {
  words = parts_stand m (negsuc 1) (5 ∷ []) 0 (record { low = refl; high = refl }) refl (record { low = refl; high = refl })
      (record { low = refl; high = refl }) (record { low = refl; high = refl })
      (record { count = record { low = refl; high = refl }; words = (record { low = refl; high = refl }, tt) });
  block = record {
    count = refl;
    words = parts_stand (put_back noted m) (pos 9) [] 3 (record { low = refl; high = refl }) refl
        (record { low = refl; high = refl })
        (record { low = refl; high = refl }) (record { low = refl; high = refl })
        (record { count = record { low = refl; high = refl }; words = tt });
  };
}
