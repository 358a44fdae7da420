-- The words of parts are those of their items, and what is counted of parts is counted of each.
use Rattle.std.proofs.Common.{◌≡◌, ℕ, ◌+◌, refl, ap, ◌∙◌, arith, Bool, true, ◌&&◌, List, [], ◌∷◌, ◌++◌, length}
use Rattle.std.specs.Prelude.{IsTrue, nat_le, nat_lt}
use Rattle.std.proofs.lemmas.Bool.{and_parts, and_from}
use Rattle.isa430.specs.Table.{code_of, valid}
use Rattle.asm430.specs.declared.item.Item.{Item}
use Rattle.asm430.specs.Assembly.{words_in, is_formed, are_formed}
use Rattle.asm430.proofs.Labels.{words_append}
use Rattle.select430.specs.declared.part.Part.{Part}
use Rattle.select430.specs.declared.part.Part.TheVariants.{Do, DoUnless, Go, GoUnless, Enters, Helps, Names}
use Rattle.select430.specs.Parts.{part_items, parts_items, part_words, parts_words, skips, helps}

pub part_words_are : (g p : ℕ) (x : Part) → words_in (part_items g p x) ≡ part_words x
part_words_are g p (Do i) = let e : length (code_of i) + 0 ≡ length (code_of i) = omega arith in e
part_words_are g p (DoUnless c i) = let e : 1 + (length (code_of i) + (0 + 0)) ≡ 1 + length (code_of i) = omega arith in e
part_words_are g p (Go to) = refl
part_words_are g p (GoUnless c to) = refl
part_words_are g p (Enters h) = refl
part_words_are g p (Helps which) = refl
part_words_are g p (Names t n) = refl

pub parts_words_are : (g p : ℕ) (xs : List Part) → words_in (parts_items g p xs) ≡ parts_words xs
parts_words_are g p [] = refl
parts_words_are g p (x ∷ xs) =
    words_append (part_items g p x) (parts_items g p xs)
    ∙ ap (λ (n : ℕ). n + words_in (parts_items g p xs)) (part_words_are g p x)
    ∙ ap (λ (n : ℕ). part_words x + n) (parts_words_are g p xs)

pub parts_words_append : (xs ys : List Part) → parts_words (xs ++ ys) ≡ parts_words xs + parts_words ys
parts_words_append [] ys = let e : parts_words ys ≡ 0 + parts_words ys = omega arith in e
parts_words_append (x ∷ xs) ys = let e = parts_words_append xs ys in omega arith

pub skips_append : (xs ys : List Part) → skips (xs ++ ys) ≡ skips xs + skips ys
skips_append [] ys = let e : skips ys ≡ 0 + skips ys = omega arith in e
skips_append (Do i ∷ xs) ys = skips_append xs ys
skips_append (DoUnless c i ∷ xs) ys = let e = skips_append xs ys in omega arith
skips_append (Go to ∷ xs) ys = skips_append xs ys
skips_append (GoUnless c to ∷ xs) ys = let e = skips_append xs ys in omega arith
skips_append (Enters h ∷ xs) ys = skips_append xs ys
skips_append (Helps which ∷ xs) ys = skips_append xs ys
skips_append (Names t n ∷ xs) ys = skips_append xs ys

pub helps_append : (xs ys : List Part) → helps (xs ++ ys) ≡ helps xs + helps ys
helps_append [] ys = let e : helps ys ≡ 0 + helps ys = omega arith in e
helps_append (Do i ∷ xs) ys = helps_append xs ys
helps_append (DoUnless c i ∷ xs) ys = helps_append xs ys
helps_append (Go to ∷ xs) ys = helps_append xs ys
helps_append (GoUnless c to ∷ xs) ys = helps_append xs ys
helps_append (Enters h ∷ xs) ys = helps_append xs ys
helps_append (Helps which ∷ xs) ys = let e = helps_append xs ys in omega arith
helps_append (Names t n ∷ xs) ys = helps_append xs ys

-- ---- valid instructions

abbrev pub is_right : Part → Bool
is_right (Do i) = valid i
is_right (DoUnless c i) = valid i
is_right (Go to) = true
is_right (GoUnless c to) = true
is_right (Enters h) = true
is_right (Helps which) = true
is_right (Names t n) = nat_le 4 n && nat_lt n 16

abbrev pub are_right : List Part → Bool
are_right [] = true
are_right (x ∷ xs) = is_right x && are_right xs

pub right_append : (xs ys : List Part) → IsTrue (are_right xs) → IsTrue (are_right ys) → IsTrue (are_right (xs ++ ys))
right_append [] ys h k = k
right_append (x ∷ xs) ys h k =
    let parts = and_parts (is_right x) (are_right xs) h in
    and_from (is_right x) (are_right (xs ++ ys)) parts.0 (right_append xs ys parts.1 k)

formed_append : (xs ys : List Item) → IsTrue (are_formed xs) → IsTrue (are_formed ys) → IsTrue (are_formed (xs ++ ys))
formed_append [] ys h k = k
formed_append (x ∷ xs) ys h k =
    let parts = and_parts (is_formed x) (are_formed xs) h in
    and_from (is_formed x) (are_formed (xs ++ ys)) parts.0 (formed_append xs ys parts.1 k)

part_formed : (g p : ℕ) (x : Part) → IsTrue (is_right x) → IsTrue (are_formed (part_items g p x))
part_formed g p (Do i) h = and_from (valid i) true h refl
part_formed g p (DoUnless c i) h = and_from (valid i) true h refl
part_formed g p (Go to) h = refl
part_formed g p (GoUnless c to) h = refl
part_formed g p (Enters f) h = refl
part_formed g p (Helps which) h = refl
part_formed g p (Names t n) h = and_from (nat_le 4 n && nat_lt n 16) true h refl

pub parts_formed : (g p : ℕ) (xs : List Part) → IsTrue (are_right xs) → IsTrue (are_formed (parts_items g p xs))
parts_formed g p [] h = refl
parts_formed g p (x ∷ xs) h =
    let parts = and_parts (is_right x) (are_right xs) h in
    formed_append (part_items g p x) (parts_items g p xs) (part_formed g p x parts.0) (parts_formed g p xs parts.1)
