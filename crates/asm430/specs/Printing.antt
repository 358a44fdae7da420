-- The entries of code from its front, one by one.
use Rattle.std.specs.Prelude.{◌≡◌, ℕ, ◌<◌, ◌≤◌, List, ◌++◌, length, take, drop, IsTrue}
use Rattle.isa430.specs.declared.instr.Instr.{Instr}
use Rattle.isa430.specs.Table.{code_of, valid}
use Rattle.asm430.specs.Listing.{Entry, entry_words, words_of_entries, StandsBefore, IsReading, entry_line, entry_lines}

-- so many of these words are a valid instruction
pub record Leads (words : List ℕ) (taken : ℕ) : Type 0 where
  pub instr : Instr
  pub formed : IsTrue (valid instr)
  pub long : taken ≡ length (code_of instr)
  pub here : take taken words ≡ code_of instr
  pub some : 0 < taken
  pub within : taken ≤ length words

-- the line of the entry that is so many of these words was added
pub record IsFirstAdded (words : List ℕ) (address taken : ℕ) (before after : List ℕ) : Type 0 where
  pub entry : Entry
  pub stands : StandsBefore (drop taken words) entry
  pub here : entry_words entry ++ drop taken words ≡ words
  pub long : taken ≡ length (entry_words entry)
  pub some : 0 < taken
  pub within : taken ≤ length words
  pub added : after ≡ before ++ entry_line address entry

-- the lines of all the entries of these words were added
pub record AreAdded (words before after : List ℕ) : Type 0 where
  pub entries : List Entry
  pub reading : IsReading words entries
  pub added : after ≡ before ++ entry_lines 0x8000 entries

-- the lines of the entries so far were added, and they and those of the words that are left are all the entries
pub record Begun (code before text : List ℕ) (at : ℕ) : Type 0 where
  pub entries : List Entry
  pub reads : (rest : List Entry) → IsReading (drop at code) rest → IsReading code (entries ++ rest)
  pub place : at ≡ length (words_of_entries entries)
  pub within : at ≤ length code
  pub added : text ≡ before ++ entry_lines 0x8000 entries
