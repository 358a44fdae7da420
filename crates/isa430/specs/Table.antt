-- The instruction table of the 16-bit core (MSP430 user's guide, 16-bit CPU, "Instruction Set" and "Addressing Modes"),
-- less what this board has no use for. Everything is stated of the fields of the first word.
use Rattle.std.specs.Prelude.{◌≡◌, ℕ, ◌+◌, ◌-◌, ◌*◌, ◌/◌, ◌%◌, Bool, true, not, ◌&&◌, ◌||◌, List, [], ◌∷◌, ◌++◌, Option, Some, None, if◌then◌else◌, nat_eq, nat_lt, nat_le, slice_index, ℤ, pos, negsuc}
use Rattle.isa430.specs.declared.instr.TwoOp.{TwoOp}
use Rattle.isa430.specs.declared.instr.TwoOp.TheVariants.{Mov, Add, Addc, Subc, Sub, Cmp, Bit, Bic, Bis, Xor, And}
use Rattle.isa430.specs.declared.instr.OneOp.{OneOp}
use Rattle.isa430.specs.declared.instr.OneOp.TheVariants.{Rrc, Swpb, Rra, Sxt, Push, Call}
use Rattle.isa430.specs.declared.instr.Cond.{Cond}
use Rattle.isa430.specs.declared.instr.Cond.TheVariants.{Nz, Z, Nc, C, N, Ge, Less, Always}
use Rattle.isa430.specs.declared.instr.Gen.{Gen}
use Rattle.isa430.specs.declared.instr.Gen.TheVariants.{Zero, One as ConstantOne, Two as ConstantTwo, Four, Eight, MinusOne}
use Rattle.isa430.specs.declared.instr.Src.{Src}
use Rattle.isa430.specs.declared.instr.Src.TheVariants.{Reg, Indexed, Absolute, Indirect, Increment, Immediate, Constant}
use Rattle.isa430.specs.declared.instr.Dst.{Dst}
use Rattle.isa430.specs.declared.instr.Dst.TheVariants.{Reg as ToReg, Indexed as ToIndexed, Absolute as ToAbsolute}
use Rattle.isa430.specs.declared.instr.Instr.{Instr}
use Rattle.isa430.specs.declared.instr.Instr.TheVariants.{Two, One, Jump}

-- ---- numbers of operators and conditions

abbrev pub two_number : TwoOp → ℕ
two_number Mov = 4
two_number Add = 5
two_number Addc = 6
two_number Subc = 7
two_number Sub = 8
two_number Cmp = 9
two_number Bit = 11
two_number Bic = 12
two_number Bis = 13
two_number Xor = 14
two_number And = 15

abbrev pub one_number : OneOp → ℕ
one_number Rrc = 0
one_number Swpb = 1
one_number Rra = 2
one_number Sxt = 3
one_number Push = 4
one_number Call = 5

abbrev pub cond_number : Cond → ℕ
cond_number Nz = 0
cond_number Z = 1
cond_number Nc = 2
cond_number C = 3
cond_number N = 4
cond_number Ge = 5
cond_number Less = 6
cond_number Always = 7

-- ---- what stands in the table, by the fields of the first word

-- the numbers of operators of two operands; 10 is DADD, and 0 to 3 are of other formats
abbrev pub two_number_listed : ℕ → Bool
two_number_listed op = nat_le 4 op && (nat_lt op 16 && not (nat_eq op 10))

-- sources, by mode and register: R0 only as the immediate. R2 and R3 mean something in each mode
abbrev pub source_listed : ℕ → ℕ → Bool
source_listed mode r = not (nat_eq r 0) || nat_eq mode 3

-- destinations, by mode and register: each register, and the memory at a register plus a word but for R0 and R3
abbrev pub destination_listed : ℕ → ℕ → Bool
destination_listed mode r = nat_eq mode 0 || not (nat_eq r 0 || nat_eq r 3)

-- a source that raises its register, by mode and register
abbrev pub raises : ℕ → ℕ → Bool
raises mode r = nat_eq mode 3 && not (nat_eq r 0 || (nat_eq r 2 || nat_eq r 3))

-- operators and widths that may go to a register: PC by MOV of a word, SP by words, SR by MOV, BIC and BIS of words
abbrev pub to_register_listed : ℕ → Bool → ℕ → Bool
to_register_listed op byte r =
    if nat_eq r 0 then not byte && nat_eq op 4
    else (if nat_eq r 1 then not byte
    else (if nat_eq r 2 then not byte && (nat_eq op 4 || (nat_eq op 12 || nat_eq op 13)) else true))

-- instructions of two operands: operator, byte form, mode and register of the source and of the destination
abbrev pub two_listed : ℕ → Bool → ℕ → ℕ → ℕ → ℕ → Bool
two_listed op byte mode source ad destination =
    two_number_listed op
    && (source_listed mode source
    && (destination_listed ad destination
    && (not (raises mode source && nat_eq source destination)
    && (not (nat_eq ad 0) || to_register_listed op byte destination))))

-- operands that are changed in place, by mode and register: R4 to R15 or memory, and no register is raised
abbrev pub changed_listed : ℕ → ℕ → Bool
changed_listed mode r =
    if nat_eq mode 0 then nat_lt 3 r
    else (if nat_eq mode 1 then not (nat_eq r 3)
    else (nat_eq mode 2 && not (nat_eq r 2 || nat_eq r 3)))

-- instructions of one operand: operator, byte form, mode and register. Bytes only for RRC and RRA; RRC, SWPB, RRA and
-- SXT change their operand in place; PUSH and CALL do not take SP; 6 is RETI, and 7 is none
abbrev pub one_listed : ℕ → Bool → ℕ → ℕ → Bool
one_listed op byte mode r =
    source_listed mode r
    && ((not byte || (nat_eq op 0 || nat_eq op 2))
    && (if nat_lt op 4 then changed_listed mode r else nat_lt op 6 && not (nat_eq r 1)))

-- first words of two operands
abbrev pub two_word_listed : ℕ → Bool
two_word_listed w =
    two_listed (w / 4096) (nat_eq (w / 64 % 2) 1) (w / 16 % 4) (w / 256 % 16) (w / 128 % 2) (w % 16)

-- first words of one operand: 000100 in bits 15 to 10
abbrev pub one_word_listed : ℕ → Bool
one_word_listed w =
    nat_eq (w / 1024) 4 && one_listed (w / 128 % 8) (nat_eq (w / 64 % 2) 1) (w / 16 % 4) (w % 16)

-- first words, by their three formats: 000 in bits 15 to 13 is one operand, 001 is a jump, and the others are two operands
abbrev pub in_table : ℕ → Bool
in_table w =
    if nat_lt w 0x2000 then one_word_listed w else (if nat_lt w 0x4000 then true else two_word_listed w)

-- ---- what the fields mean. Only fields in the table are read, so a last case stands for one number alone

abbrev pub two_of : ℕ → TwoOp
two_of n =
    if nat_eq n 4 then Mov
    else (if nat_eq n 5 then Add
    else (if nat_eq n 6 then Addc
    else (if nat_eq n 7 then Subc
    else (if nat_eq n 8 then Sub
    else (if nat_eq n 9 then Cmp
    else (if nat_eq n 11 then Bit
    else (if nat_eq n 12 then Bic
    else (if nat_eq n 13 then Bis
    else (if nat_eq n 14 then Xor else And)))))))))

abbrev pub one_of : ℕ → OneOp
one_of n =
    if nat_eq n 0 then Rrc
    else (if nat_eq n 1 then Swpb
    else (if nat_eq n 2 then Rra
    else (if nat_eq n 3 then Sxt
    else (if nat_eq n 4 then Push else Call))))

abbrev pub cond_of : ℕ → Cond
cond_of n =
    if nat_eq n 0 then Nz
    else (if nat_eq n 1 then Z
    else (if nat_eq n 2 then Nc
    else (if nat_eq n 3 then C
    else (if nat_eq n 4 then N
    else (if nat_eq n 5 then Ge
    else (if nat_eq n 6 then Less else Always))))))

-- the second constant generator, R3, by mode
abbrev pub second_constant : ℕ → Gen
second_constant mode =
    if nat_eq mode 0 then Zero
    else (if nat_eq mode 1 then ConstantOne
    else (if nat_eq mode 2 then ConstantTwo else MinusOne))

-- SR, the absolute address and the first constant generator: R2, by mode
abbrev pub status_source : ℕ → ℕ → Src
status_source mode extension =
    if nat_eq mode 0 then Reg 2
    else (if nat_eq mode 1 then Absolute extension
    else (if nat_eq mode 2 then Constant Four else Constant Eight))

-- the source of a mode and a register, with the word that follows
abbrev pub src_of : ℕ → ℕ → ℕ → Src
src_of mode r extension =
    if nat_eq r 2 then status_source mode extension
    else (if nat_eq r 3 then Constant (second_constant mode)
    else (if nat_eq mode 0 then Reg r
    else (if nat_eq mode 1 then Indexed r extension
    else (if nat_eq mode 2 then Indirect r
    else (if nat_eq r 0 then Immediate extension else Increment r)))))

-- the destination of a mode and a register, with the word that follows
abbrev pub dst_of : ℕ → ℕ → ℕ → Dst
dst_of mode r extension =
    if nat_eq mode 0 then ToReg r else (if nat_eq r 2 then ToAbsolute extension else ToIndexed r extension)

-- ten bits in two's complement
abbrev pub offset_of : ℕ → ℤ
offset_of field = if nat_lt field 512 then pos field else negsuc (1023 - field)

-- ---- the fields of an instruction

abbrev pub gen_mode : Gen → ℕ
gen_mode Zero = 0
gen_mode ConstantOne = 1
gen_mode ConstantTwo = 2
gen_mode Four = 2
gen_mode Eight = 3
gen_mode MinusOne = 3

abbrev pub gen_register : Gen → ℕ
gen_register Zero = 3
gen_register ConstantOne = 3
gen_register ConstantTwo = 3
gen_register Four = 2
gen_register Eight = 2
gen_register MinusOne = 3

abbrev pub src_mode : Src → ℕ
src_mode (Reg r) = 0
src_mode (Indexed r x) = 1
src_mode (Absolute a) = 1
src_mode (Indirect r) = 2
src_mode (Increment r) = 3
src_mode (Immediate v) = 3
src_mode (Constant g) = gen_mode g

abbrev pub src_register : Src → ℕ
src_register (Reg r) = r
src_register (Indexed r x) = r
src_register (Absolute a) = 2
src_register (Indirect r) = r
src_register (Increment r) = r
src_register (Immediate v) = 0
src_register (Constant g) = gen_register g

-- the words that follow the first word for an operand
abbrev pub src_extension : Src → List ℕ
src_extension (Reg r) = []
src_extension (Indexed r x) = x ∷ []
src_extension (Absolute a) = a ∷ []
src_extension (Indirect r) = []
src_extension (Increment r) = []
src_extension (Immediate v) = v ∷ []
src_extension (Constant g) = []

-- the bytes of these words
abbrev pub src_size : Src → ℕ
src_size (Reg r) = 0
src_size (Indexed r x) = 2
src_size (Absolute a) = 2
src_size (Indirect r) = 0
src_size (Increment r) = 0
src_size (Immediate v) = 2
src_size (Constant g) = 0

abbrev pub dst_mode : Dst → ℕ
dst_mode (ToReg r) = 0
dst_mode (ToIndexed r x) = 1
dst_mode (ToAbsolute a) = 1

abbrev pub dst_register : Dst → ℕ
dst_register (ToReg r) = r
dst_register (ToIndexed r x) = r
dst_register (ToAbsolute a) = 2

abbrev pub dst_extension : Dst → List ℕ
dst_extension (ToReg r) = []
dst_extension (ToIndexed r x) = x ∷ []
dst_extension (ToAbsolute a) = a ∷ []

abbrev pub dst_size : Dst → ℕ
dst_size (ToReg r) = 0
dst_size (ToIndexed r x) = 2
dst_size (ToAbsolute a) = 2

abbrev pub offset_field : ℤ → ℕ
offset_field (pos n) = n
offset_field (negsuc n) = 1023 - n

abbrev pub bit_of : Bool → ℕ
bit_of b = if b then 1 else 0

-- the first word: an operator of two operands in bits 15 to 12, the source register in 11 to 8, the destination mode in 7,
-- the byte form in 6, the source mode in 5 and 4, the destination register in 3 to 0
abbrev pub first_word : Instr → ℕ
first_word (Two op byte src dst) =
    two_number op * 4096 + src_register src * 256 + dst_mode dst * 128 + bit_of byte * 64 + src_mode src * 16 + dst_register dst
first_word (One op byte src) = 0x1000 + one_number op * 128 + bit_of byte * 64 + src_mode src * 16 + src_register src
first_word (Jump cond offset) = 0x2000 + cond_number cond * 1024 + offset_field offset

-- ---- the table's two sides

-- the words of an instruction: the extension of the source comes before that of the destination
abbrev pub code_of : Instr → List ℕ
code_of (Two op byte src dst) = first_word (Two op byte src dst) ∷ (src_extension src ++ dst_extension dst)
code_of (One op byte src) = first_word (One op byte src) ∷ src_extension src
code_of (Jump cond offset) = first_word (Jump cond offset) ∷ []

-- the bytes that it takes
abbrev pub size_of : Instr → ℕ
size_of (Two op byte src dst) = 2 + src_size src + dst_size dst
size_of (One op byte src) = 2 + src_size src
size_of (Jump cond offset) = 2

-- an instruction of two operands with this source: the word that the destination takes comes after the source's
abbrev pub two_from : ℕ → Src → ℕ → ℕ → Instr
two_from w0 src w1 w2 =
    Two (two_of (w0 / 4096)) (nat_eq (w0 / 64 % 2) 1) src
    (dst_of (w0 / 128 % 2) (w0 % 16) (if nat_eq (src_size src) 0 then w1 else w2))

abbrev pub two_instr : ℕ → ℕ → ℕ → Instr
two_instr w0 w1 w2 = two_from w0 (src_of (w0 / 16 % 4) (w0 / 256 % 16) w1) w1 w2

abbrev pub one_instr : ℕ → ℕ → Instr
one_instr w0 w1 =
    One (one_of (w0 / 128 % 8)) (nat_eq (w0 / 64 % 2) 1) (src_of (w0 / 16 % 4) (w0 % 16) w1)

abbrev pub jump_instr : ℕ → Instr
jump_instr w0 = Jump (cond_of (w0 / 1024 % 8)) (offset_of (w0 % 1024))

-- what three words say, if the first is in the table
abbrev pub instr_of : ℕ → ℕ → ℕ → Instr
instr_of w0 w1 w2 =
    if nat_lt w0 0x2000 then one_instr w0 w1
    else (if nat_lt w0 0x4000 then jump_instr w0 else two_instr w0 w1 w2)

-- the instruction that three words begin with: none exactly where the first word is outside the table
unfoldable pub decode_of : ℕ → ℕ → ℕ → Option Instr
decode_of w0 w1 w2 = if in_table w0 then Some (instr_of w0 w1 w2) else None

-- the same of a list of three words
abbrev pub decode_words : List ℕ → Option Instr
decode_words ws = decode_of (slice_index ws 0) (slice_index ws 1) (slice_index ws 2)

-- ---- which instructions there are

-- a register with no meaning of its own in modes 1 to 3
abbrev pub plain : ℕ → Bool
plain r = nat_lt r 16 && not (nat_eq r 0 || (nat_eq r 2 || nat_eq r 3))

-- a source that has fields of its own: R3 as a register is the constant 0
abbrev pub src_formed : Src → Bool
src_formed (Reg r) = nat_lt r 16 && not (nat_eq r 3)
src_formed (Indexed r x) = plain r
src_formed (Absolute a) = true
src_formed (Indirect r) = plain r
src_formed (Increment r) = plain r
src_formed (Immediate v) = true
src_formed (Constant g) = true

abbrev pub dst_formed : Dst → Bool
dst_formed (ToReg r) = nat_lt r 16
dst_formed (ToIndexed r x) = plain r
dst_formed (ToAbsolute a) = true

abbrev pub offset_formed : ℤ → Bool
offset_formed (pos n) = nat_lt n 512
offset_formed (negsuc n) = nat_lt n 512

-- operands that have fields of their own, and fields that stand in the table
abbrev pub valid : Instr → Bool
valid (Two op byte src dst) =
    src_formed src && (dst_formed dst && two_listed (two_number op) byte (src_mode src) (src_register src) (dst_mode dst) (dst_register dst))
valid (One op byte src) = src_formed src && one_listed (one_number op) byte (src_mode src) (src_register src)
valid (Jump cond offset) = offset_formed offset

-- these words stand at this address, two bytes each
abbrev pub WordsAt : (ℕ → ℕ) → ℕ → List ℕ → Type 0
WordsAt m a [] = Unit {0}
WordsAt m a (w ∷ ws) = (m a ≡ w) × WordsAt m (a + 2) ws
