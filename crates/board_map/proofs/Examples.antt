-- What memories recover to, worked out by computing.
use Rattle.std.specs.Prelude.{◌≡◌, ℕ, ◌==◌, if◌then◌else◌}
use Rattle.std.proofs.Common.{refl}
use Rattle.base16.specs.Memory.{put}
use Rattle.board_map.specs.Recovered.{recovered}

-- A memory with 5 at 4000 and two valid entries for it, first 1 and then 3. The working segment is 0; its first word is 9,
-- and 7 in the slot's copy.
abbrev twice : ℕ → ℕ
twice a =
    if a == 0x1010 then 2 else if a == 0x1400 then 0x4000 else if a == 0x1402 then 1 else if a == 0x1404 then 0x4000 else if a
    == 0x1406 then 3
    else if a == 0x4000 then 5 else if a == 0x2000 then 9 else if a == 0x2100 then 8 else if a == 0x1100 then 7 else 0

-- The first of two entries counts; putting back from the first to the last would give 3.
first_counts : (recovered twice).memory 0x4000 ≡ 1
unfolding put
first_counts = refl

forwards_is_wrong : put (put twice 0x4000 1) 0x4000 3 0x4000 ≡ 3
unfolding put
forwards_is_wrong = refl

-- The slot's copy stands for the working segment, and nothing above it lives.
copy_counts : ((recovered twice).memory 0x2000 ≡ 7) × ((recovered twice).memory 0x2100 ≡ 0)
unfolding put
copy_counts = (refl, refl)

-- With the count cleared before the words are put back the new word stands.
cleared_first_is_wrong : (recovered (put twice 0x1010 0)).memory 0x4000 ≡ 5
unfolding put
cleared_first_is_wrong = refl

-- With the gate before the other count is cleared, or one count for both slots, the store would be taken back.
gate_before_count_is_wrong : (recovered (put (put twice 0x1012 2) 0x1000 1)).memory 0x4000 ≡ 1
unfolding put
gate_before_count_is_wrong = refl

gate_after_count : (recovered (put (put twice 0x1012 0) 0x1000 1)).memory 0x4000 ≡ 5
unfolding put
gate_after_count = refl
