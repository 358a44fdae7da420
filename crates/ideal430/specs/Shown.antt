-- What the code's types stand for.
use Rattle.std.specs.Prelude.{◌≡◌, ℕ, ◌+◌, ◌-◌, ◌*◌, ◌/◌, ◌%◌, ◌&&◌, true, List, [], ◌∷◌, length, slice_index, if◌then◌else◌, Option, Some, None}
use Rattle.ideal430.specs.Places.{is_even, is_between}
use Rattle.ideal430.specs.declared.service.Store.TheVariants.{Word, Byte, Link}
use Rattle.core430.specs.Registers.{view_of}
use Rattle.ideal430.specs.Service.{Block, Stays, Effect}
use Rattle.ideal430.specs.declared.service.Store.{Store}
use Rattle.ideal430.specs.declared.deed.Stores.{Stores}
use Rattle.ideal430.specs.declared.deed.Stores.TheVariants.{NoStore, One, Two}
use Rattle.ideal430.specs.declared.deed.Deed.{Deed as CodeDeed}

abbrev pub stores_shown : Stores → List Store
stores_shown NoStore = []
stores_shown (One a) = a ∷ []
stores_shown (Two a b) = a ∷ b ∷ []

-- of the services that are built, each notes its stores, and none opens or closes a block
abbrev pub effect_shown : CodeDeed → Effect
effect_shown d = record {
  regs = view_of d.regs.r;
  segment = d.segment;
  stores = stores_shown d.stores;
  noted = true;
  block = Stays;
  marks = d.marks;
  asks = d.asks;
  ends = d.ends;
}

-- how many words an open block has noted
abbrev pub block_words : Block → Option ℕ
block_words None = None
block_words (Some noted) = Some (length noted)

-- a store of a word goes to an even address
abbrev pub IsEven : Store → Type 0
IsEven (Word a w) = a % 2 ≡ 0
IsEven (Byte a v) = Unit {0}
IsEven (Link a w) = a % 2 ≡ 0

abbrev pub AreEven : List Store → Type 0
AreEven [] = Unit {0}
AreEven (s ∷ rest) = IsEven s × AreEven rest

-- a memory with the first n words of a list set, from an address on
abbrev pub filled : (start : ℕ) → List ℕ → (n : ℕ) → (ℕ → ℕ) → (ℕ → ℕ)
filled start ws n m = λ a. if is_even a && is_between start (start + 2 * n) a then slice_index ws ((a - start) / 2) else m a
