-- Worked examples, by hand, of definitions that no code computes yet or that have no effect on a run: settled bytes, ticks,
-- the policy, stamps, check tables and the undoing of a block.
use Rattle.std.proofs.Common.{◌≡◌, ℕ, true, false, nat_eq, Some, None, List, [], ◌∷◌, refl, if◌then◌else◌}
use Rattle.ideal430.specs.Service.{Noted, stamp_at, is_fresh, own_wild, own_effect, own_full, undo_stores, stores_in}
use Rattle.ideal430.specs.Costs.{effect_ticks, effect_entries, is_due, due_of}
use Rattle.ideal430.specs.Settled.{Bytes, no_bytes, store_bytes, settled_after, settled_again}
use Rattle.base16.specs.Memory.{put}
use Rattle.base16.specs.declared.end.EndKind.TheVariants.{OutputFull}
use Rattle.ideal430.specs.declared.service.Service.TheVariants.{Halt, Enter, StoreWord, StoreByte, StampWord, Emit, Open, Close}
use Rattle.ideal430.specs.declared.service.Store.TheVariants.{Word, Byte}

abbrev all_bytes : Bytes
all_bytes b = true

abbrev no_pointers : ℕ → ℕ
no_pointers k = 0

-- ---- settled bytes: SP is 2040 in segment 0

-- a byte that is stored settles itself, and not the other byte of its word
stored_byte : settled_after 0 0x2040 no_pointers (store_bytes (Byte 0x2051 7)) no_bytes 0x2051 ≡ true
stored_byte = refl

other_byte : settled_after 0 0x2040 no_pointers (store_bytes (Byte 0x2051 7)) no_bytes 0x2050 ≡ false
other_byte = refl

-- below the stack pointer nothing is settled, also what was just written, and nothing is above the working segment
below_pointer : settled_after 0 0x2040 no_pointers all_bytes all_bytes 0x203F ≡ false
below_pointer = refl

at_pointer : settled_after 0 0x2040 no_pointers no_bytes all_bytes 0x2040 ≡ true
at_pointer = refl

above_segment : settled_after 0 0x2040 no_pointers all_bytes all_bytes 0x2100 ≡ false
above_segment = refl

-- the outputs, the data and the code always are; what lies beside them never is
last_output : settled_after 0 0x2040 no_pointers no_bytes no_bytes 0x1C01 ≡ true
last_output = refl

past_outputs : settled_after 0 0x2040 no_pointers all_bytes all_bytes 0x1C02 ≡ false
past_outputs = refl

past_code : settled_after 0 0x2040 no_pointers all_bytes all_bytes 0xF000 ≡ false
past_code = refl

-- in an older segment, from the last stack pointer that it had on
older_held : settled_after 1 0x2180 (λ k. 0x2060) (store_bytes (Word 0x2060 7)) no_bytes 0x2061 ≡ true
older_held = refl

older_lost : settled_after 1 0x2180 (λ k. 0x2060) (store_bytes (Word 0x205E 7)) no_bytes 0x205F ≡ false
older_lost = refl

-- of two noted stores to one word the first says what was settled before
abbrev noted_twice : List Noted
noted_twice = record { address = 0x2050; old = 1 } ∷ record { address = 0x2050; old = 2 } ∷ []

first_says : settled_again 0 noted_twice ((λ b. nat_eq b 0x2051) ∷ all_bytes ∷ []) 0x2050 ≡ false
first_says = refl

first_says_too : settled_again 0 noted_twice ((λ b. nat_eq b 0x2051) ∷ no_bytes ∷ []) 0x2051 ≡ true
first_says_too = refl

-- ---- an undoing

-- from the last to the first, so that the first old word stands at the end; above the working segment nothing is put back
undone : stores_in (λ a. 9) (undo_stores 0 noted_twice) 0x2050 ≡ 1
unfolding put
undone = refl

passed_over : undo_stores 0 (record { address = 0x2100; old = 1 } ∷ []) ≡ []
passed_over = refl

-- ---- the policy: a period of 100 ticks

none_due : is_due 99 100 248 0 false false false false ≡ false
none_due = refl

period_over : is_due 100 100 0 0 false false false false ≡ true
period_over = refl

segment_changed : is_due 0 100 0 0 true false false false ≡ true
segment_changed = refl

log_nearly_full : is_due 0 100 249 0 false false false false ≡ true
log_nearly_full = refl

log_and_block : is_due 0 100 200 49 false false false false ≡ true
log_and_block = refl

asked_for : is_due 0 100 0 0 false true false false ≡ true
asked_for = refl

main_left : is_due 0 100 0 0 false false true false ≡ true
main_left = refl

block_opened : is_due 0 100 0 0 false false false true ≡ true
block_opened = refl

-- ---- ticks, with R13 5, R14 an address and R15 another

abbrev found : (r14 r15 : ℕ) → (ℕ → ℕ)
found r14 r15 k = if nat_eq k 1 then 0x20FE else
    (if nat_eq k 13 then 5 else (if nat_eq k 14 then r14 else (if nat_eq k 15 then r15 else 0)))

abbrev zeros : ℕ → ℕ
zeros a = 0

-- a logged word is four ticks, a word of the working segment one, and one that is noted two more
logged_store : effect_ticks 0 None (own_effect StoreWord 0 (found 0x4000 0) zeros 0 None) ≡ 4
logged_store = refl

plain_store : effect_ticks 0 None (own_effect StoreByte 0 (found 0x2051 0) zeros 0 None) ≡ 1
plain_store = refl

older_store : effect_ticks 1 None (own_effect StoreWord 0 (found 0x2050 0) zeros 1 None) ≡ 4
older_store = refl

noted_store : effect_ticks 0 (Some []) (own_effect StoreWord 0 (found 0x4000 0) zeros 0 (Some [])) ≡ 6
noted_store = refl

stamped_store : effect_ticks 0 None (own_effect StampWord 7 (found 0x4000 0x5000) zeros 0 None) ≡ 12
stamped_store = refl

two_words : effect_ticks 0 None (own_effect Emit 0 (found 0 0) zeros 0 None) ≡ 8
two_words = refl

two_entries : effect_entries 0 (own_effect Emit 0 (found 0 0) zeros 0 None) ≡ 2
two_entries = refl

-- a frame in the next segment is one tick in all, and its mark is due
link_tick : effect_ticks 0 None (own_effect Enter 0 (λ k. if nat_eq k 1 then 0x2040 else 240) zeros 0 None) ≡ 1
link_tick = refl

link_due : due_of 0 None (own_effect Enter 0 (λ k. if nat_eq k 1 then 0x2040 else 240) zeros 0 None) 0 100 0 0 ≡ true
link_due = refl

-- halt is no mark, so nothing is due after it
halt_not_due : due_of 0 None (own_effect Halt 0 zeros zeros 0 None) 1000 100 0 0 ≡ false
halt_not_due = refl

-- ---- time

-- a scalar is fresh at its lifetime and expired a millisecond later; a high word from 8000 on is no stamp
fresh_at_lifetime : is_fresh (Some 0) 1000 1000 ≡ true
fresh_at_lifetime = refl

expired_after : is_fresh (Some 0) 1001 1000 ≡ false
expired_after = refl

no_stamp : stamp_at (λ a. 0x8000) 0x5000 ≡ None
no_stamp = refl

-- ---- refusals of the services that are not built yet

-- a table outside the code range comes before a block that is open already
table_first : own_wild Open (found 0x7000 1) zeros 0 (Some []) ≡ Some 0x7000
table_first = refl

-- then the stamps that the rows name, here at 0
stamp_next : own_wild Open (found 0x8000 1) zeros 0 (Some []) ≡ Some 0
stamp_next = refl

block_last : own_wild Open (found 0x8000 0) zeros 0 (Some []) ≡ Some 0xFF14
block_last = refl

nothing_open : own_wild Close (found 0x8000 0) zeros 0 None ≡ Some 0xFF18
nothing_open = refl

-- the place before the stamp, and of the stamp its first word before its second
place_first : own_wild StampWord (found 0x4001 0x4001) zeros 0 None ≡ Some 0x4001
place_first = refl

second_word : own_wild StampWord (found 0x4000 0x7FFE) zeros 0 None ≡ Some 0x8000
second_word = refl

-- OutputFull is asked before BlockFull
outputs_first : own_full Emit (found 0 0) (λ a. 256) 0 (Some (record { address = 0; old = 0 } ∷ [])) ≡ Some OutputFull
outputs_first = refl
