-- What a memory shows by the symbols of a program: the values of scalars, their stamps, and the outputs.
use Rattle.std.specs.Prelude.{◌≡◌, ℕ, ◌+◌, ◌*◌, ◌<◌, ◌≤◌, ◌%◌, Bool, true, false, ◌||◌, List, Option, Some, None, IfSome, slice_get}
use Rattle.base16.specs.Board.{outputs_start, outputs_end, data_start, data_end}
use Rattle.base16.specs.declared.image.Kind.{Kind}
use Rattle.base16.specs.declared.image.Kind.TheVariants.{Char, Int, UInt, Pointer}
use Rattle.base16.specs.declared.image.Scalar.{Scalar}
use Rattle.board_map.specs.Map.{between}
use Rattle.core430.specs.Bytes.{word_address, byte_in}
use Rattle.ideal430.specs.Service.{outputs_of, stamp_at}
use Rattle.world.specs.History.{Display}

-- ---- what is shown

-- of the word at an address: a char is one of its bytes, any other scalar the whole word
abbrev pub value_in : Kind → (address word : ℕ) → ℕ
value_in Char a w = byte_in a w
value_in Int a w = w
value_in UInt a w = w
value_in Pointer a w = w

-- the value of a scalar, and its stamp if it is timed
abbrev pub value_of : (ℕ → ℕ) → Scalar → ℕ
value_of m x = value_in x.kind x.address (m (word_address x.address))

abbrev pub stamp_of : (ℕ → ℕ) → Option ℕ → Option ℕ
stamp_of m None = None
stamp_of m (Some a) = stamp_at m a

-- the same of a scalar that there may be: 0 and none where there is none
abbrev pub value_if : (ℕ → ℕ) → Option Scalar → ℕ
value_if m None = 0
value_if m (Some x) = value_of m x

abbrev pub stamp_if : (ℕ → ℕ) → Option Scalar → Option ℕ
stamp_if m None = None
stamp_if m (Some x) = stamp_of m x.stamp

-- the outputs stand behind the word that counts them
abbrev pub output_address : ℕ → ℕ
output_address index = outputs_start + 2 + 2 * index

abbrev pub display_of : List Scalar → (ℕ → ℕ) → Display
display_of scalars m = record {
  values = λ s. value_if m (slice_get scalars s);
  stamps = λ s. stamp_if m (slice_get scalars s);
  outputs = outputs_of m;
  outs = λ i. m (output_address i);
}

-- Two displays show the same values, stamps and outputs; what stands behind the outputs is not shown.
pub record ShowsSame (d e : Display) : Type 0 where
  pub values : (s : ℕ) → d.values s ≡ e.values s
  pub stamps : (s : ℕ) → d.stamps s ≡ e.stamps s
  pub outputs : d.outputs ≡ e.outputs
  pub outs : (i : ℕ) → i < e.outputs → d.outs i ≡ e.outs i

-- ---- where it stands

-- the outputs and the data
abbrev pub is_shown : ℕ → Bool
is_shown b = between outputs_start outputs_end b || between data_start data_end b

-- Two memories have the same words in the outputs and the data.
pub record SameWords (m w : ℕ → ℕ) : Type 0 where
  pub at : (b : ℕ) → b % 2 ≡ 0 → is_shown b ≡ true → m b ≡ w b

-- So many bytes from an address on lie in the data, from an even address on where they are more than one.
pub record LiesInData (address bytes : ℕ) : Type 0 where
  pub low : data_start ≤ address
  pub high : address + bytes ≤ data_end
  pub even : 1 < bytes → address % 2 ≡ 0

-- how many bytes a scalar has, and a stamp
abbrev pub value_bytes : Kind → ℕ
value_bytes Char = 1
value_bytes Int = 2
value_bytes UInt = 2
value_bytes Pointer = 2

abbrev pub stamp_bytes : ℕ
stamp_bytes = 4

pub record IsInData (x : Scalar) : Type 0 where
  pub value : LiesInData x.address (value_bytes x.kind)
  pub stamp : IfSome x.stamp (λ a. LiesInData a stamp_bytes)

-- whether a byte belongs to a scalar, or to its stamp
abbrev pub is_of_value : Option Scalar → ℕ → Bool
is_of_value None b = false
is_of_value (Some x) b = between x.address (x.address + value_bytes x.kind) b

abbrev pub is_within : Option ℕ → ℕ → Bool
is_within None b = false
is_within (Some a) b = between a (a + stamp_bytes) b

abbrev pub is_of_stamp : Option Scalar → ℕ → Bool
is_of_stamp None b = false
is_of_stamp (Some x) b = is_within x.stamp b

-- Scalars and their stamps lie in the data, and no two of them share a byte.
pub record AreInData (scalars : List Scalar) : Type 0 where
  pub placed : (s : ℕ) (x : Scalar) → slice_get scalars s ≡ Some x → IsInData x
  pub values : (s t b : ℕ) → is_of_value (slice_get scalars s) b ≡ true → is_of_value (slice_get scalars t) b ≡ true → s ≡ t
  pub stamps : (s t b : ℕ) → is_of_stamp (slice_get scalars s) b ≡ true → is_of_stamp (slice_get scalars t) b ≡ true → s ≡ t
  pub both : (s t b : ℕ) → is_of_value (slice_get scalars s) b ≡ true → is_of_stamp (slice_get scalars t) b ≡ false
