-- What pieces put one after another come to.
use Rattle.std.proofs.Common.{◌≡◌, ℕ, ◌+◌, ◌≤◌, ◌<◌, List, [], ◌∷◌, ◌++◌, length, take, drop, get_or, Option, Some, None, Result, Err, refl, sym, ap, ◌∙◌, subst, arith, append_assoc, append-nil, length-append, suc, take-append-drop}
use Rattle.std.proofs.lemmas.List.{take_more, take-append-le}
use Rattle.std.specs.List.{concat}
use Rattle.edge.specs.Told.{Appends, AppendsFront}
use Rattle.edge.specs.declared.sink.SinkErr.{SinkErr}
use Rattle.edge.specs.declared.sink.SinkErr.TheVariants.{Failed, NoMemory}

pub appends_nothing : (a : Option (List ℕ)) → Appends a a []
appends_nothing None = tt
appends_nothing (Some x) = ap Some (sym (append-nil x))

pub appends_more : (a b c : Option (List ℕ)) (xs ys : List ℕ) → Appends a b xs → Appends b c ys → Appends a c (xs ++ ys)
appends_more None b c xs ys p q = tt
appends_more (Some x) b c xs ys p q =
    let e : Appends (Some (x ++ xs)) c ys = subst (λ (o : Option (List ℕ)). Appends o c ys) p q in
    e ∙ ap Some (append_assoc x xs ys)

-- the first n elements past a front
take_past : (xs ys : List ℕ) (n : ℕ) → n ≤ length ys → take (length xs + n) (xs ++ ys) ≡ xs ++ take n ys
take_past [] ys n h = ap (λ k. take k ys) (omega arith)
take_past (x ∷ xs) ys n h =
    let s : length (x ∷ xs) + n ≡ suc (length xs + n) = omega arith in
    ap (λ k. take k (x ∷ (xs ++ ys))) s ∙ ap (λ (t : List ℕ). x ∷ t) (take_past xs ys n h)

pub front_more : (a b c : Option (List ℕ)) (xs ys zs : List ℕ) → Appends a b xs → AppendsFront b c ys
    → AppendsFront a c (xs ++ (ys ++ zs))
front_more None b c xs ys zs p q = tt
front_more (Some x) b c xs ys zs p q =
    let e : AppendsFront (Some (x ++ xs)) c ys = subst (λ (o : Option (List ℕ)). AppendsFront o c ys) p q in
    let within : length xs + e.0 ≤ length (xs ++ (ys ++ zs)) = simp (length-append) (omega (arith, e.1)) in
    let some : e.0 ≤ length (ys ++ zs) = simp (length-append) (omega (arith, e.1)) in
    let same : take (length xs + e.0) (xs ++ (ys ++ zs)) ≡ xs ++ take e.0 ys =
    take_past xs (ys ++ zs) e.0 some ∙ ap (λ (t : List ℕ). xs ++ t) (take-append-le e.0 ys zs e.1) in
    (length xs + e.0, within, e.2 ∙ (ap Some (append_assoc x xs (take e.0 ys)) ∙ ap (λ (t : List ℕ). Some (x ++ t)) (sym same)))

pub front_nothing : (b : Option (List ℕ)) (ys : List ℕ) → AppendsFront b b ys
front_nothing None ys = tt
front_nothing (Some x) ys = (0, omega arith, ap Some (sym (append-nil x)))

-- a piece of which a front was put, or nothing
pub front_failed : (r : Result (Unit {0}) SinkErr) (b c : Option (List ℕ)) (ys : List ℕ) (e : SinkErr) → r ≡ Err e
    → (r ≡ Err Failed → AppendsFront b c ys) → (r ≡ Err NoMemory → c ≡ b) → AppendsFront b c ys
front_failed r b c ys Failed h f m = f h
front_failed r b c ys NoMemory h f m = subst (λ (o : Option (List ℕ)). AppendsFront b o ys) (sym (m h)) (front_nothing b ys)

-- ---- lines
pub concat-append : (xs ys : List (List ℕ)) → concat (xs ++ ys) ≡ concat xs ++ concat ys
concat-append [] ys = refl
concat-append (x ∷ xs) ys = ap (λ (t : List ℕ). x ++ t) (concat-append xs ys) ∙ sym (append_assoc x (concat xs) (concat ys))

pub concat_more : (lines : List (List ℕ)) (i : ℕ) (line : List ℕ) → i < length lines → line ≡ get_or lines i line
    → concat (take (i + 1) lines) ≡ concat (take i lines) ++ line
concat_more lines i line h e =
    ap concat (take_more lines i line h ∙ ap (λ (t : List ℕ). take i lines ++ t ∷ []) (sym e))
    ∙ (concat-append (take i lines) (line ∷ []) ∙ ap (λ (t : List ℕ). concat (take i lines) ++ t) (append-nil line))

-- the lines before a line, the line, and those after it
pub concat_whole : (lines : List (List ℕ)) (i : ℕ) (line : List ℕ) → i < length lines → line ≡ get_or lines i line
    → concat lines ≡ concat (take i lines) ++ (line ++ concat (drop (i + 1) lines))
concat_whole lines i line h e =
    ap concat (sym (take-append-drop (i + 1) lines)) ∙ (concat-append (take (i + 1) lines) (drop (i + 1) lines)
    ∙ (ap (λ (t : List ℕ). t ++ concat (drop (i + 1) lines)) (concat_more lines i line h e)
    ∙ append_assoc (concat (take i lines)) line (concat (drop (i + 1) lines))))
