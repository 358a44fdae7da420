-- The words of a valid instruction decode to it.
use Rattle.std.proofs.Common.{◌≡◌, ℕ, ◌+◌, ◌/◌, ◌%◌, ◌<◌, refl, sym, ap, ◌∙◌, subst, arith, Bool, true, false, Some, ◌++◌}
use Rattle.std.proofs.lemmas.Bool.{lt-ltb, le-ltb, and_parts}
use Rattle.std.specs.Prelude.{nat_eq, nat_lt, if◌then◌else◌, ℤ, IsTrue}
use Rattle.isa430.specs.declared.instr.TwoOp.{TwoOp}
use Rattle.isa430.specs.declared.instr.OneOp.{OneOp}
use Rattle.isa430.specs.declared.instr.Cond.{Cond}
use Rattle.isa430.specs.declared.instr.Src.{Src}
use Rattle.isa430.specs.declared.instr.Src.TheVariants.{Reg, Indexed, Absolute, Indirect, Increment, Immediate, Constant}
use Rattle.isa430.specs.declared.instr.Dst.{Dst}
use Rattle.isa430.specs.declared.instr.Dst.TheVariants.{Reg as ToReg, Indexed as ToIndexed, Absolute as ToAbsolute}
use Rattle.isa430.specs.declared.instr.Instr.{Instr}
use Rattle.isa430.specs.declared.instr.Instr.TheVariants.{Two, One, Jump}
use Rattle.isa430.specs.Table.{two_number, one_number, cond_number, two_listed, one_listed, in_table, two_of, one_of, src_of, dst_of, src_mode, src_register, src_extension, src_size, dst_mode, dst_register, dst_extension, offset_field, bit_of, first_word, code_of, instr_of, decode_of, src_formed, dst_formed, offset_formed, valid, WordsAt}
use Rattle.isa430.proofs.Fields.{TwoFields, OneFields, two_fields, one_fields, two_back, one_back, cond_back, byte_back, offset_back, src_ranges, dst_ranges, src_back, dst_back}

-- the words after the first, an operand each
record Extensions (m : ℕ → ℕ) (a : ℕ) (s : Src) (d : Dst) : Type 0 where
  source : WordsAt (λ b. m a) 0 (src_extension s)
  destination : WordsAt (λ b. if nat_eq (src_size s) 0 then m a else m (a + 2)) 0 (dst_extension d)

one_word : (f : ℕ → ℕ) (a x : ℕ) (d : Dst) → f a ≡ x → WordsAt f a (dst_extension d) → WordsAt (λ b. x) 0 (dst_extension d)
one_word f a x (ToReg r) e h = tt
one_word f a x (ToIndexed r y) e h = (sym e ∙ h.0, tt)
one_word f a x (ToAbsolute y) e h = (sym e ∙ h.0, tt)

extensions : (m : ℕ → ℕ) (a : ℕ) (s : Src) (d : Dst) → WordsAt m a (src_extension s ++ dst_extension d) → Extensions m a s d
extensions m a (Reg r) d h = record { source = tt; destination = one_word m a (m a) d refl h }
extensions m a (Indexed r x) d h = record { source = (h.0, tt); destination = one_word m (a + 2) (m (a + 2)) d refl h.1 }
extensions m a (Absolute x) d h = record { source = (h.0, tt); destination = one_word m (a + 2) (m (a + 2)) d refl h.1 }
extensions m a (Indirect r) d h = record { source = tt; destination = one_word m a (m a) d refl h }
extensions m a (Increment r) d h = record { source = tt; destination = one_word m a (m a) d refl h }
extensions m a (Immediate x) d h = record { source = (h.0, tt); destination = one_word m (a + 2) (m (a + 2)) d refl h.1 }
extensions m a (Constant g) d h = record { source = tt; destination = one_word m a (m a) d refl h }

lone_extension : (m : ℕ → ℕ) (a : ℕ) (s : Src) → WordsAt m a (src_extension s) → WordsAt (λ b. m a) 0 (src_extension s)
lone_extension m a (Reg r) h = tt
lone_extension m a (Indexed r x) h = (h.0, tt)
lone_extension m a (Absolute x) h = (h.0, tt)
lone_extension m a (Indirect r) h = tt
lone_extension m a (Increment r) h = tt
lone_extension m a (Immediate x) h = (h.0, tt)
lone_extension m a (Constant g) h = tt

pub decode_from : (w0 w1 w2 : ℕ) (i : Instr) → in_table w0 ≡ true → instr_of w0 w1 w2 ≡ i → decode_of w0 w1 w2 ≡ Some i
unfolding decode_of
decode_from w0 w1 w2 i t e = simp t (ap Some e)

-- ---- the first word stands in the table, and its fields say the instruction

two_table : (w o b s a m d : ℕ) → TwoFields w o b s a m d → two_listed o (nat_eq b 1) m s a d ≡ true → in_table w ≡ true
two_table w o b s a m d f t = simp (f.low, f.jump, f.op, f.source, f.ad, f.byte, f.mode, f.destination) t

two_read : (w w1 w2 o b r a m d : ℕ) (s : Src) → TwoFields w o b r a m d → src_of m r w1 ≡ s → instr_of w w1 w2 ≡ Two (two_of o) (nat_eq b 1) s (dst_of a d (if nat_eq (src_size s) 0 then w1 else w2))
two_read w w1 w2 o b r a m d s f e = simp (f.low, f.jump, f.op, f.source, f.ad, f.byte, f.mode, f.destination, e)

one_table : (w o b m r : ℕ) → OneFields w o b m r → one_listed o (nat_eq b 1) m r ≡ true → in_table w ≡ true
one_table w o b m r f t = simp (f.low, f.format, f.op, f.byte, f.mode, f.register) t

one_read : (w w1 w2 o b m r : ℕ) (s : Src) → OneFields w o b m r → src_of m r w1 ≡ s → instr_of w w1 w2 ≡ One (one_of o) (nat_eq b 1) s
one_read w w1 w2 o b m r s f e = simp (f.low, f.op, f.byte, f.mode, f.register, e)

same_two : (o p : TwoOp) (b c : Bool) (s : Src) (d e : Dst) → o ≡ p → b ≡ c → d ≡ e → Two o b s d ≡ Two p c s e
same_two o p b c s d e h1 h2 h3 = cc

same_one : (o p : OneOp) (b c : Bool) (s : Src) → o ≡ p → b ≡ c → One o b s ≡ One p c s
same_one o p b c s h1 h2 = cc

decodes_two : (op : TwoOp) (byte : Bool) (s : Src) (d : Dst) (m : ℕ → ℕ) (a : ℕ) → IsTrue (src_formed s) → IsTrue (dst_formed d) → IsTrue (two_listed (two_number op) byte (src_mode s) (src_register s) (dst_mode d) (dst_register d)) → WordsAt m a (code_of (Two op byte s d)) → decode_of (m a) (m (a + 2)) (m (a + 2 + 2)) ≡ Some (Two op byte s d)
decodes_two op byte s d m a vs vd v h =
    let x = extensions m (a + 2) s d h.1 in
    let rs = src_ranges s vs in
    let rd = dst_ranges d vd in
    let ro = two_back op in
    let rb = byte_back byte in
    let f = two_fields (m a) (two_number op) (bit_of byte) (src_register s) (dst_mode d) (src_mode s) (dst_register d) h.0 ro.1 ro.2 rs.0 rd.1 rb.1 rs.1 rd.0 in
    decode_from (m a) (m (a + 2)) (m (a + 2 + 2)) (Two op byte s d)
    (two_table _ _ _ _ _ _ _ f (subst (λ c. two_listed (two_number op) c (src_mode s) (src_register s) (dst_mode d) (dst_register d) ≡ true) (sym rb.0) v))
    (two_read _ _ _ _ _ _ _ _ _ s f (src_back s (m (a + 2)) vs x.source) ∙ same_two _ _ _ _ _ _ _ ro.0 rb.0 (dst_back d _ vd x.destination))

decodes_one : (op : OneOp) (byte : Bool) (s : Src) (m : ℕ → ℕ) (a : ℕ) → IsTrue (src_formed s) → IsTrue (one_listed (one_number op) byte (src_mode s) (src_register s)) → WordsAt m a (code_of (One op byte s)) → decode_of (m a) (m (a + 2)) (m (a + 2 + 2)) ≡ Some (One op byte s)
decodes_one op byte s m a vs v h =
    let x = lone_extension m (a + 2) s h.1 in
    let rs = src_ranges s vs in
    let ro = one_back op in
    let rb = byte_back byte in
    let f = one_fields (m a) (one_number op) (bit_of byte) (src_mode s) (src_register s) h.0 ro.1 rb.1 rs.1 rs.0 in
    decode_from (m a) (m (a + 2)) (m (a + 2 + 2)) (One op byte s)
    (one_table _ _ _ _ _ f (subst (λ c. one_listed (one_number op) c (src_mode s) (src_register s) ≡ true) (sym rb.0) v))
    (one_read _ _ _ _ _ _ _ s f (src_back s (m (a + 2)) vs x) ∙ same_one _ _ _ _ _ ro.0 rb.0)

decodes_jump : (c : Cond) (o : ℤ) (w0 w1 w2 : ℕ) → IsTrue (offset_formed o) → w0 ≡ first_word (Jump c o) → decode_of w0 w1 w2 ≡ Some (Jump c o)
decodes_jump c o w0 w1 w2 h e =
    let r = offset_back o h in
    let q = cond_back c in
    let f : w0 / 1024 % 8 ≡ cond_number c = omega arith in
    let g : w0 % 1024 ≡ offset_field o = omega arith in
    let l : nat_lt w0 8192 ≡ false = le-ltb w0 8192 (omega arith) in
    let u : nat_lt w0 16384 ≡ true = lt-ltb w0 16384 (omega arith) in
    decode_from w0 w1 w2 (Jump c o) (simp (l, u)) (simp (l, u, f, g, q.0, r.0))

-- the law: a valid instruction whose words stand at an address is what is decoded there, whatever follows
pub decodes : (i : Instr) (m : ℕ → ℕ) (a : ℕ) → IsTrue (valid i) → WordsAt m a (code_of i) → decode_of (m a) (m (a + 2)) (m (a + 2 + 2)) ≡ Some i
decodes (Two op byte s d) m a v h =
    let p = and_parts _ _ v in
    let q = and_parts _ _ p.1 in
    decodes_two op byte s d m a p.0 q.0 q.1 h
decodes (One op byte s) m a v h =
    let p = and_parts _ _ v in
    decodes_one op byte s m a p.0 p.1 h
decodes (Jump c o) m a v h = decodes_jump c o (m a) (m (a + 2)) (m (a + 2 + 2)) v h.0

pub destination_register : (op : TwoOp) (byte : Bool) (s : Src) (d : Dst) → IsTrue (valid (Two op byte s d)) → dst_register d < 16
destination_register op byte s d v = (dst_ranges d (and_parts _ _ (and_parts _ _ v).1).0).0
