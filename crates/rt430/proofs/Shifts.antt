-- The shifts: one place for each turn, and no more than 15 turns.
use Rattle.std.proofs.Common.{◌≡◌, ◌≢◌, ℕ, zero, suc, ◌+◌, ◌-◌, ◌*◌, ◌/◌, ◌%◌, ◌<◌, refl, sym, ap, ◌∙◌, subst, arith, Bool, true, false, List, [], ◌∷◌, ◌⊎◌, inl, inr, bit_and}
use Rattle.std.proofs.lemmas.Bool.{cases_eq, eq-eqb, ne_eqb}
use Rattle.std.specs.Prelude.{ℤ, pos, negsuc}
use Rattle.isa430.specs.declared.instr.TwoOp.TheVariants.{Mov, Add, Sub, And}
use Rattle.isa430.specs.declared.instr.OneOp.TheVariants.{Rra, Rrc}
use Rattle.isa430.specs.declared.instr.Gen.TheVariants.{Zero, One as ConstantOne}
use Rattle.isa430.specs.declared.instr.Src.TheVariants.{Reg, Increment, Immediate, Constant}
use Rattle.isa430.specs.declared.instr.Dst.TheVariants.{Reg as ToReg}
use Rattle.isa430.specs.declared.instr.Cond.TheVariants.{Z, Nz}
use Rattle.isa430.specs.declared.instr.Instr.{Instr}
use Rattle.isa430.specs.declared.instr.Instr.TheVariants.{Two, One, Jump}
use Rattle.core430.specs.Status.{carry_of, zero_of}
use Rattle.core430.specs.Arithmetic.{sum_status, logic_status, shifted, is_negative}
use Rattle.run430.specs.Code.{Agrees, Here, Owns}
use Rattle.run430.specs.Routine.{IsKept}
use Rattle.run430.proofs.Words.{Agrees-self}
use Rattle.run430.proofs.Steady.{steady_sets, steady_one_sets, steady_jump}
use Rattle.run430.proofs.Operands.{in_register, to_register, given, constant}
use Rattle.run430.proofs.FlagLemmas.{logic_zero}
use Rattle.std.proofs.lemmas.Nat.{and_mask}
use Rattle.rt430.specs.declared.words.Helper.TheVariants.{Shl}
use Rattle.rt430.specs.Routines.{kept_by}
use Rattle.rt430.proofs.Stretch.{at_most, new_flags, no_carry, counted_out, counts_on, one_less, Went, then_went, AtReturn}

abbrev pub return_part : List Instr
return_part = Two Mov false (Increment 1) (ToReg 0) ∷ []

-- a shift of so many places, by instructions of `bytes` bytes in all that shift by one place
abbrev pub turn_part : ℤ → List Instr
turn_part back =
    Two Sub false (Constant ConstantOne) (ToReg 13)
    ∷ Jump Nz back
    ∷ return_part

abbrev pub left_code : List Instr
left_code =
    Two And false (Immediate 15) (ToReg 13)
    ∷ Jump Z (pos 3)
    ∷ Two Add false (Reg 12) (ToReg 12)
    ∷ turn_part (negsuc 2)

abbrev pub signed_right_code : List Instr
signed_right_code =
    Two And false (Immediate 15) (ToReg 13)
    ∷ Jump Z (pos 3)
    ∷ One Rra false (Reg 12)
    ∷ turn_part (negsuc 2)

abbrev pub right_code : List Instr
right_code =
    Two And false (Immediate 15) (ToReg 13)
    ∷ Jump Z (pos 4)
    ∷ Two Add false (Constant Zero) (ToReg 12)
    ∷ One Rrc false (Reg 12)
    ∷ turn_part (negsuc 3)

-- so many shifts by one place
abbrev pub times : (ℕ → ℕ) → ℕ → ℕ → ℕ
times f zero x = x
times f (suc k) x = times f k (f x)

pub record At (pc sp x count : ℕ) (q r : ℕ → ℕ) : Type 0 where
  place : r 0 ≡ pc
  stack : r 1 ≡ sp
  value : r 12 ≡ x
  left : r 13 ≡ count
  kept : IsKept (kept_by Shl) q r

-- the count is cut to four bits, which leaves a smaller one as it is
cut : (y : ℕ) → bit_and y 15 ≡ y % 16
cut y = and_mask y 4

module _ (denied : ℕ → Bool) (R W : ℕ → Type 0) (lo hi : ℕ) (own : Owns R lo hi) (base sp : ℕ) (q m : ℕ → ℕ) where
  g : Agrees m lo hi m
  g = Agrees-self m lo hi

  -- the count is looked at: with none left it goes to the return
  starts_none : (r : ℕ → ℕ) (x y far : ℕ) → Here m lo hi base (Two And false (Immediate 15) (ToReg 13)) → Here m lo hi (base + 4) (Jump Z (pos far)) → base + 6 + 2 * far < 65280 → r 0 ≡ base → r 1 ≡ sp → r 12 ≡ x → r 13 ≡ y → y % 16 ≡ 0 → IsKept (kept_by Shl) q r → Went denied R W sp m 2 r (AtReturn (base + 6 + 2 * far) sp x (kept_by Shl) q)
  starts_none r x y far h j below pc stack first second none kept =
      let h' = subst (λ (k : ℕ). Here m lo hi k (Two And false (Immediate 15) (ToReg 13))) (sym pc) h in
      let e : base + 4 ≡ r 0 + 4 = omega (arith, pc) in
      let j' = subst (λ (k : ℕ). Here m lo hi k (Jump Z (pos far))) e j in
      let zero' : bit_and (r 13) 15 ≡ 0 = ap (λ (k : ℕ). bit_and k 15) second ∙ cut y ∙ none in
      let flag : zero_of (logic_status false (r 2) (bit_and (r 13) 15) false) ≡ true = logic_zero false (r 2) (bit_and (r 13) 15) false ∙ eq-eqb (bit_and (r 13) 15) 0 zero' in
      let to : (r 0 + 4 + 2 + 2 * far) % 65536 ≡ base + 6 + 2 * far = omega (arith, pc, below) in
      record {
        steps = 2;
        within = omega arith;
        end = _;
        runs =
            steady_sets denied R W m lo hi own sp 1 _ _ _ And false (Immediate 15) (ToReg 13) _ _ _ g h' given to_register refl tt tt refl (at_most stack)
            (steady_jump denied R W m lo hi own sp 0 _ _ _ Z (pos far) true (base + 6 + 2 * far) g j' flag to below (at_most stack) refl);
        so = record { place = refl; stack = stack; answers = first; kept = (new_flags _ _ _ _ _ _ kept.0, kept.1) };
      }

  starts : (r : ℕ → ℕ) (x y far : ℕ) → Here m lo hi base (Two And false (Immediate 15) (ToReg 13)) → Here m lo hi (base + 4) (Jump Z (pos far)) → base + 6 + 2 * far < 65280 → r 0 ≡ base → r 1 ≡ sp → r 12 ≡ x → r 13 ≡ y → y % 16 ≢ 0 → IsKept (kept_by Shl) q r → Went denied R W sp m 2 r (At (base + 6) sp x (y % 16) q)
  starts r x y far h j below pc stack first second some kept =
      let h' = subst (λ (k : ℕ). Here m lo hi k (Two And false (Immediate 15) (ToReg 13))) (sym pc) h in
      let e : base + 4 ≡ r 0 + 4 = omega (arith, pc) in
      let j' = subst (λ (k : ℕ). Here m lo hi k (Jump Z (pos far))) e j in
      let count : bit_and (r 13) 15 ≡ y % 16 = ap (λ (k : ℕ). bit_and k 15) second ∙ cut y in
      let not_zero : bit_and (r 13) 15 ≢ 0 = λ (z : bit_and (r 13) 15 ≡ 0). some (sym count ∙ z) in
      let flag : zero_of (logic_status false (r 2) (bit_and (r 13) 15) false) ≡ false = logic_zero false (r 2) (bit_and (r 13) 15) false ∙ ne_eqb (bit_and (r 13) 15) 0 not_zero in
      let to : (r 0 + 4 + 2 + 2 * far) % 65536 ≡ base + 6 + 2 * far = omega (arith, pc, below) in
      let place : r 0 + 4 + 2 ≡ base + 6 = omega (arith, pc) in
      record {
        steps = 2;
        within = omega arith;
        end = _;
        runs =
            steady_sets denied R W m lo hi own sp 1 _ _ _ And false (Immediate 15) (ToReg 13) _ _ _ g h' given to_register refl tt tt refl (at_most stack)
            (steady_jump denied R W m lo hi own sp 0 _ _ _ Z (pos far) false (base + 6 + 2 * far) g j' flag to below (at_most stack) refl);
        so = record { place = place; stack = stack; value = first; left = count; kept = (new_flags _ _ _ _ _ _ kept.0, kept.1) };
      }

  -- one place, by instructions that lead from base + 6 to base + 6 + bytes
  abbrev pub Shifts : (ℕ → ℕ) → ℕ → ℕ → Type 0
  Shifts f bytes limit = (r : ℕ → ℕ) (x count : ℕ) → x < 65536 → At (base + 6) sp x count q r → (f x < 65536) × Went denied R W sp m limit r (At (base + 6 + bytes) sp (f x) count q)

  -- the end of a turn, with more to come
  again : (r : ℕ → ℕ) (x count bytes back : ℕ) → Here m lo hi (base + 6 + bytes) (Two Sub false (Constant ConstantOne) (ToReg 13)) → Here m lo hi (base + 6 + bytes + 2) (Jump Nz (negsuc back)) → 2 * back ≡ bytes + 2 → base + 6 < 65280 → At (base + 6 + bytes) sp x (suc count) q r → 0 < count → count < 65535 → Went denied R W sp m 2 r (At (base + 6) sp x count q)
  again r x count bytes back h j eb below a l k =
      let h' = subst (λ (i : ℕ). Here m lo hi i (Two Sub false (Constant ConstantOne) (ToReg 13))) (sym a.place) h in
      let j' = subst (λ (i : ℕ). Here m lo hi (i + 2) (Jump Nz (negsuc back))) (sym a.place) j in
      let high = j.high in let top = j.top in
      let to : (r 0 + 2 + 2 + 65536 - 2 * (back + 1)) % 65536 ≡ base + 6 = omega (arith, a.place, eb) in
      record {
        steps = 2;
        within = omega arith;
        end = _;
        runs =
            steady_sets denied R W m lo hi own sp 1 _ _ _ Sub false (Constant ConstantOne) (ToReg 13) _ _ _ g h' constant to_register refl tt tt refl (at_most a.stack)
            (steady_jump denied R W m lo hi own sp 0 _ _ _ Nz (negsuc back) true (base + 6) g j' (counts_on _ (r 13) count a.left l k) to below (at_most a.stack) refl);
        so = record { place = refl; stack = a.stack; value = a.value; left = one_less (r 13) count a.left k; kept = (new_flags _ _ _ _ _ _ a.kept.0, a.kept.1) };
      }

  ends : (r : ℕ → ℕ) (x bytes back : ℕ) → Here m lo hi (base + 6 + bytes) (Two Sub false (Constant ConstantOne) (ToReg 13)) → Here m lo hi (base + 6 + bytes + 2) (Jump Nz (negsuc back)) → 2 * back ≡ bytes + 2 → base + 6 < 65280 → At (base + 6 + bytes) sp x 1 q r → Went denied R W sp m 2 r (AtReturn (base + 6 + bytes + 4) sp x (kept_by Shl) q)
  ends r x bytes back h j eb below a =
      let h' = subst (λ (i : ℕ). Here m lo hi i (Two Sub false (Constant ConstantOne) (ToReg 13))) (sym a.place) h in
      let j' = subst (λ (i : ℕ). Here m lo hi (i + 2) (Jump Nz (negsuc back))) (sym a.place) j in
      let high = j.high in let top = j.top in
      let to : (r 0 + 2 + 2 + 65536 - 2 * (back + 1)) % 65536 ≡ base + 6 = omega (arith, a.place, eb) in
      let place : r 0 + 2 + 2 ≡ base + 6 + bytes + 4 = omega (arith, a.place) in
      record {
        steps = 2;
        within = omega arith;
        end = _;
        runs =
            steady_sets denied R W m lo hi own sp 1 _ _ _ Sub false (Constant ConstantOne) (ToReg 13) _ _ _ g h' constant to_register refl tt tt refl (at_most a.stack)
            (steady_jump denied R W m lo hi own sp 0 _ _ _ Nz (negsuc back) false (base + 6) g j' (counted_out _ (r 13) a.left) to below (at_most a.stack) refl);
        so = record { place = place; stack = a.stack; answers = a.value; kept = (new_flags _ _ _ _ _ _ a.kept.0, a.kept.1) };
      }

  -- k + 1 turns of at most four instructions each
  loop : (f : ℕ → ℕ) (bytes back : ℕ) → Here m lo hi (base + 6 + bytes) (Two Sub false (Constant ConstantOne) (ToReg 13)) → Here m lo hi (base + 6 + bytes + 2) (Jump Nz (negsuc back)) → 2 * back ≡ bytes + 2 → base + 6 < 65280 → Shifts f bytes 2 → (k : ℕ) (x : ℕ) (r : ℕ → ℕ) → k < 16 → x < 65536 → At (base + 6) sp x (suc k) q r → Went denied R W sp m (4 * suc k) r (AtReturn (base + 6 + bytes + 4) sp (times f (suc k) x) (kept_by Shl) q)
  loop f bytes back h j eb below shift zero x r few word a =
      let s = shift r x 1 word a in
      then_went denied R W sp m 2 2 r _ _ s.1 (λ t b. ends t (f x) bytes back h j eb below b)
  loop f bytes back h j eb below shift (suc k) x r few word a =
      let s = shift r x (suc (suc k)) word a in
      let l : suc k < 65535 = omega (arith, few) in
      let z = then_went denied R W sp m 2 (2 + 4 * suc k) r _ _ s.1 (λ t b. then_went denied R W sp m 2 (4 * suc k) t _ _ (again t (f x) (suc k) bytes back h j eb below b (omega arith) l) (λ u c. loop f bytes back h j eb below shift k (f x) u (omega (arith, few)) s.0 c)) in
      record { steps = z.steps; within = omega (arith, z.within); end = z.end; runs = z.runs; so = z.so }

  pub whole : (f : ℕ → ℕ) (bytes back far : ℕ) → Here m lo hi base (Two And false (Immediate 15) (ToReg 13)) → Here m lo hi (base + 4) (Jump Z (pos far)) → Here m lo hi (base + 6 + bytes) (Two Sub false (Constant ConstantOne) (ToReg 13)) → Here m lo hi (base + 6 + bytes + 2) (Jump Nz (negsuc back)) → 2 * back ≡ bytes + 2 → 2 * far ≡ bytes + 4 → base + 6 + bytes + 4 < 65280 → Shifts f bytes 2 → (x y : ℕ) (r : ℕ → ℕ) → x < 65536 → r 0 ≡ base → r 1 ≡ sp → r 12 ≡ x → r 13 ≡ y → IsKept (kept_by Shl) q r → Went denied R W sp m 62 r (AtReturn (base + 6 + bytes + 4) sp (times f (y % 16) x) (kept_by Shl) q)
  whole f bytes back far h j hs js eb ef below shift x y r word pc stack first second kept = by_count (cases_eq (y % 16) 0)
    where
      none : y % 16 ≡ 0 → Went denied R W sp m 62 r (AtReturn (base + 6 + bytes + 4) sp (times f (y % 16) x) (kept_by Shl) q)
      none e =
          let to : base + 6 + 2 * far ≡ base + 6 + bytes + 4 = omega arith in
          let low : base + 6 + 2 * far < 65280 = omega arith in
          let z = starts_none r x y far h j low pc stack first second e kept in
          record { steps = z.steps; within = omega (arith, z.within); end = z.end; runs = z.runs; so = record { place = z.so.place ∙ to; stack = z.so.stack; answers = z.so.answers ∙ ap (λ (k : ℕ). times f k x) (sym e); kept = z.so.kept } }

      some : (k : ℕ) → y % 16 ≡ suc k → k < 15 → Went denied R W sp m 62 r (AtReturn (base + 6 + bytes + 4) sp (times f (y % 16) x) (kept_by Shl) q)
      some k e l =
          let low : base + 6 + 2 * far < 65280 = omega arith in
          let low2 : base + 6 < 65280 = omega arith in
          let not_zero : y % 16 ≢ 0 = omega arith in
          let few : k < 16 = omega arith in
          let z = then_went denied R W sp m 2 (4 * suc k) r _ _ (starts r x y far h j low pc stack first second not_zero kept) (λ t a. loop f bytes back hs js eb low2 shift k x t few word (record { place = a.place; stack = a.stack; value = a.value; left = a.left ∙ e; kept = a.kept })) in
          record { steps = z.steps; within = omega (arith, z.within, l); end = z.end; runs = z.runs; so = record { place = z.so.place; stack = z.so.stack; answers = z.so.answers ∙ ap (λ (k : ℕ). times f k x) (sym e); kept = z.so.kept } }

      by_count : ((y % 16 ≡ 0) ⊎ (y % 16 ≡ 0 → ⊥)) → Went denied R W sp m 62 r (AtReturn (base + 6 + bytes + 4) sp (times f (y % 16) x) (kept_by Shl) q)
      by_count (inl e) = none e
      by_count (inr n) = some (y % 16 - 1) (omega arith) (omega arith)

  -- ---- one place

  pub one_left : Here m lo hi (base + 6) (Two Add false (Reg 12) (ToReg 12)) → Shifts (λ x. (2 * x) % 65536) 2 2
  one_left h r x count word a =
      let h' = subst (λ (i : ℕ). Here m lo hi i (Two Add false (Reg 12) (ToReg 12))) (sym a.place) h in
      let place : r 0 + 2 ≡ base + 6 + 2 = omega (arith, a.place) in
      let value : (r 12 + r 12 + 0) % 65536 ≡ (2 * x) % 65536 = omega (arith, a.value) in
      let fits : (2 * x) % 65536 < 65536 = omega arith in (
        fits,
        record {
          steps = 1;
          within = omega arith;
          end = _;
          runs = steady_sets denied R W m lo hi own sp 0 _ _ _ Add false (Reg 12) (ToReg 12) _ _ _ g h' in_register to_register refl tt tt refl (at_most a.stack) refl;
          so = record { place = place; stack = a.stack; value = value; left = a.left; kept = (new_flags _ _ _ _ _ _ a.kept.0, a.kept.1) };
        },
      )

  pub one_signed_right : Here m lo hi (base + 6) (One Rra false (Reg 12)) → Shifts (λ x. shifted false (is_negative false x) x) 2 2
  one_signed_right h r x count word a =
      let h' = subst (λ (i : ℕ). Here m lo hi i (One Rra false (Reg 12))) (sym a.place) h in
      let place : r 0 + 2 ≡ base + 6 + 2 = omega (arith, a.place) in
      let value : shifted false (is_negative false (r 12)) (r 12) ≡ shifted false (is_negative false x) x = ap (λ (k : ℕ). shifted false (is_negative false k) k) a.value in (
        within_word (is_negative false x) x word,
        record {
          steps = 1;
          within = omega arith;
          end = _;
          runs = steady_one_sets denied R W m lo hi own sp 0 _ _ _ Rra false (Reg 12) _ _ g h' in_register refl tt refl (at_most a.stack) refl;
          so = record { place = place; stack = a.stack; value = value; left = a.left; kept = (new_flags _ _ _ _ _ _ a.kept.0, a.kept.1) };
        },
      )
    where
      within_word : (b : Bool) (x : ℕ) → x < 65536 → shifted false b x < 65536
      within_word true x l = omega arith
      within_word false x l = omega arith

  pub one_right : Here m lo hi (base + 6) (Two Add false (Constant Zero) (ToReg 12)) → Here m lo hi (base + 8) (One Rrc false (Reg 12)) → Shifts (λ x. x / 2) 4 2
  one_right h h2 r x count word a =
      let h' = subst (λ (i : ℕ). Here m lo hi i (Two Add false (Constant Zero) (ToReg 12))) (sym a.place) h in
      let e : base + 8 ≡ r 0 + 2 = omega (arith, a.place) in
      let h2' = subst (λ (i : ℕ). Here m lo hi i (One Rrc false (Reg 12))) e h2 in
      let place : r 0 + 2 + 2 ≡ base + 6 + 4 = omega (arith, a.place) in
      let fits : r 12 + 0 < 65536 = omega (arith, a.value, word) in
      let clear : carry_of (sum_status false (r 2) false (r 12) 0) ≡ false = no_carry (r 2) (r 12) 0 fits in
      let same : (r 12 + 0 + 0) % 65536 ≡ x = omega (arith, a.value, word) in
      let value : shifted false (carry_of (sum_status false (r 2) false (r 12) 0)) ((r 12 + 0 + 0) % 65536) ≡ x / 2 = ap (λ (b : Bool). shifted false b ((r 12 + 0 + 0) % 65536)) clear ∙ ap (λ (k : ℕ). shifted false false k) same ∙ (let z : x / 2 + 0 ≡ x / 2 = omega arith in z) in
      let fits2 : x / 2 < 65536 = omega arith in (
        fits2,
        record {
          steps = 2;
          within = omega arith;
          end = _;
          runs =
              steady_sets denied R W m lo hi own sp 1 _ _ _ Add false (Constant Zero) (ToReg 12) _ _ _ g h' constant to_register refl tt tt refl (at_most a.stack)
              (steady_one_sets denied R W m lo hi own sp 0 _ _ _ Rrc false (Reg 12) _ _ g h2' in_register refl tt refl (at_most a.stack) refl);
          so = record { place = place; stack = a.stack; value = value; left = a.left; kept = (new_flags _ _ _ _ _ _ (new_flags _ _ _ _ _ _ a.kept.0), a.kept.1) };
        },
      )
