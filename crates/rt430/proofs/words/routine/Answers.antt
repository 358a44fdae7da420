use Rattle.std.proofs.Common.{◌≡◌, ℕ, List, sym, subst}
use Rattle.run430.specs.Code.{words_of_code}
use Rattle.rt430.specs.declared.words.Helper.{Helper}
use Rattle.rt430.specs.declared.words.Helper.TheVariants.{Mul16, Udiv16, Umod16, Sdiv16, Smod16, Shl, Shr, Sar}
use Rattle.rt430.specs.Routines.{Computes, Returns}
use Rattle.rt430.proofs.Multiply.{code as product_code, multiplies, product_returns}
use Rattle.rt430.proofs.Quotients.{quotient_code, remainder_code, quotient_answers, quotient_returns, remainder_answers, remainder_returns}
use Rattle.rt430.proofs.SignedQuotients.{quotient_code as signed_quotient_code, remainder_code as signed_remainder_code, quotient_answers as signed_quotient_answers, quotient_returns as signed_quotient_returns, remainder_answers as signed_remainder_answers, remainder_returns as signed_remainder_returns}
use Rattle.rt430.proofs.Shifts.{left_code, right_code, signed_right_code}
use Rattle.rt430.proofs.ShiftRoutines.{left_answers, left_returns, right_answers, right_returns, signed_right_answers, signed_right_returns}
use Rattle.rt430.proofs.words.routine.Goals as goal

same : (which w : Helper) (ws : List ℕ) → which ≡ w → Computes w ws → Computes which ws
same which w ws e h = subst (λ (k : Helper). Computes k ws) (sym e) h

same_back : (which w : Helper) (ws : List ℕ) → which ≡ w → Returns w ws → Returns which ws
same_back which w ws e h = subst (λ (k : Helper). Returns k ws) (sym e) h

pub returns-in-Mul16-clause-value : goal.returns-in-Mul16-clause-value
returns-in-Mul16-clause-value c = same c.args.which Mul16 (words_of_code product_code) c.in-Mul16.is multiplies

pub returns-in-Mul16-clause-always : goal.returns-in-Mul16-clause-always
returns-in-Mul16-clause-always c = same_back c.args.which Mul16 (words_of_code product_code) c.in-Mul16.is product_returns

pub returns-in-Udiv16-clause-value : goal.returns-in-Udiv16-clause-value
returns-in-Udiv16-clause-value c = same c.args.which Udiv16 (words_of_code quotient_code) c.in-Udiv16.is quotient_answers

pub returns-in-Udiv16-clause-always : goal.returns-in-Udiv16-clause-always
returns-in-Udiv16-clause-always c = same_back c.args.which Udiv16 (words_of_code quotient_code) c.in-Udiv16.is quotient_returns

pub returns-in-Umod16-clause-value : goal.returns-in-Umod16-clause-value
returns-in-Umod16-clause-value c = same c.args.which Umod16 (words_of_code remainder_code) c.in-Umod16.is remainder_answers

pub returns-in-Umod16-clause-always : goal.returns-in-Umod16-clause-always
returns-in-Umod16-clause-always c = same_back c.args.which Umod16 (words_of_code remainder_code) c.in-Umod16.is remainder_returns

pub returns-in-Sdiv16-clause-value : goal.returns-in-Sdiv16-clause-value
returns-in-Sdiv16-clause-value c = same c.args.which Sdiv16 (words_of_code signed_quotient_code) c.in-Sdiv16.is signed_quotient_answers

pub returns-in-Sdiv16-clause-always : goal.returns-in-Sdiv16-clause-always
returns-in-Sdiv16-clause-always c = same_back c.args.which Sdiv16 (words_of_code signed_quotient_code) c.in-Sdiv16.is signed_quotient_returns

pub returns-in-Smod16-clause-value : goal.returns-in-Smod16-clause-value
returns-in-Smod16-clause-value c = same c.args.which Smod16 (words_of_code signed_remainder_code) c.in-Smod16.is signed_remainder_answers

pub returns-in-Smod16-clause-always : goal.returns-in-Smod16-clause-always
returns-in-Smod16-clause-always c = same_back c.args.which Smod16 (words_of_code signed_remainder_code) c.in-Smod16.is signed_remainder_returns

pub returns-in-Shl-clause-value : goal.returns-in-Shl-clause-value
returns-in-Shl-clause-value c = same c.args.which Shl (words_of_code left_code) c.in-Shl.is left_answers

pub returns-in-Shl-clause-always : goal.returns-in-Shl-clause-always
returns-in-Shl-clause-always c = same_back c.args.which Shl (words_of_code left_code) c.in-Shl.is left_returns

pub returns-in-Shr-clause-value : goal.returns-in-Shr-clause-value
returns-in-Shr-clause-value c = same c.args.which Shr (words_of_code right_code) c.in-Shr.is right_answers

pub returns-in-Shr-clause-always : goal.returns-in-Shr-clause-always
returns-in-Shr-clause-always c = same_back c.args.which Shr (words_of_code right_code) c.in-Shr.is right_returns

pub returns-in-Sar-clause-value : goal.returns-in-Sar-clause-value
returns-in-Sar-clause-value c = same c.args.which Sar (words_of_code signed_right_code) c.in-Sar.is signed_right_answers

pub returns-in-Sar-clause-always : goal.returns-in-Sar-clause-always
returns-in-Sar-clause-always c = same_back c.args.which Sar (words_of_code signed_right_code) c.in-Sar.is signed_right_returns
