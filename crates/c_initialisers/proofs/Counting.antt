-- The scalars of arrays and structs, as those of their elements and members.
use Rattle.std.proofs.Common.{◌≡◌, Bool, ℕ, zero, suc, ◌+◌, ◌-◌, ◌*◌, ◌/◌, ◌%◌, ◌<◌, ◌≤◌, ◌⊎◌, inl, inr, List, [], ◌∷◌, ◌++◌, length, length-append, get_or, take, drop, subst, append_assoc, Option, Some, None, refl, ap, sym, ◌∙◌, rules, arith}
use Rattle.std.specs.Prelude.{IfSome}
use Rattle.std.proofs.lemmas.Bool.{cases_lt}
use Rattle.std.proofs.lemmas.List.{get_or_append_left, get_or-append_right, get_or-take, take-take, take_all, get_or_at, get_or-map, get_or_default, get_or_read, get_or_push, drop_more, drop_all, length-map, length-take}
use Rattle.std.proofs.Math.Nat.{mod-eq_of_lt, mod-eq-sub-mod, mul-div_cancel_left}
use Rattle.std.proofs.lemmas.Nat.{mod_below}
use Rattle.core_tree.specs.declared.types.Ty.{Ty, fold-Ty, ind-Ty, roll-Ty, map-Ty, the_lemmas}
use Rattle.core_tree.specs.declared.types.Ty.TheOpen.{Ty-F}
use Rattle.core_tree.specs.declared.types.Ty.TheVariants as ty
use Rattle.core_tree.specs.declared.types.Struct.{Struct}
use Rattle.core_tree.specs.declared.types.Member.{Member}
use Rattle.core_tree.specs.Reaching.{joined}
use Rattle.base16.specs.declared.integer.IntType.{IntType}
use Rattle.c_checking.specs.Initialisers.{Leaf, Parts, leaf_step, together, repeated, leaves_in, struct_leaves, leaves}
use Rattle.c_initialisers.specs.declared.scalars.Asked.{Asked}
use Rattle.c_initialisers.specs.declared.scalars.Asked.TheVariants.{Found, Within}
use Rattle.c_initialisers.specs.declared.scalars.Spot.{Spot}
use Rattle.c_initialisers.specs.Scalars.{no_leaf, before, starts_from, member_leaves, starts, searched, inside, in_element, in_member, Answered, answered_by, answered, IsIn, Leads, IsMember, IsAnswered, Keeps, IsCounted}

-- ---- an object around scalars

length-together : (ls : List Leaf) → length (together ls) ≡ length ls
length-together [] = refl
length-together (l ∷ ls) = refl

asked_inside : (asked : Asked) (n : ℕ) (l : Leaf)
    → answered_by asked (record { ty = l.ty; begins = n ∷ l.begins }) ≡ answered_by (inside n 0 asked) l
asked_inside (Found n) total l = refl
asked_inside (Within zero) total l = refl
asked_inside (Within (suc outer)) total l = refl

together_at : (ls : List Leaf) (asked : Asked) (p : ℕ) → p < length ls
    → answered_by asked (get_or (together ls) p no_leaf) ≡ answered_by (inside (length ls) p asked) (get_or ls p no_leaf)
together_at [] asked p h = absurd (omega arith)
together_at (l ∷ ls) asked zero h = asked_inside asked (length (l ∷ ls)) l
together_at (l ∷ ls) asked (suc p) h = refl

-- ---- arrays

length-repeated : (n : ℕ) (ls : List Leaf) → length (repeated n ls) ≡ n * length ls
length-repeated zero ls = omega arith
length-repeated (suc n) ls = length-append ls (repeated n ls) ∙ omega (arith, length-repeated n ls)

repeated_case : (n : ℕ) (ls : List Leaf) (p : ℕ) → p < suc n * length ls
    → ((q : ℕ) → q < n * length ls → get_or (repeated n ls) q no_leaf ≡ get_or ls (q % length ls) no_leaf)
    → (p < length ls) ⊎ (length ls ≤ p)
    → get_or (ls ++ repeated n ls) p no_leaf ≡ get_or ls (p % length ls) no_leaf
repeated_case n ls p h rest (inl low) =
    get_or_append_left ls (repeated n ls) no_leaf p low ∙ ap (λ q. get_or ls q no_leaf) (sym (mod-eq_of_lt low))
repeated_case n ls p h rest (inr high) =
    get_or-append_right ls (repeated n ls) (length ls) p no_leaf refl high
    ∙ (rest (p - length ls) (omega arith) ∙ ap (λ q. get_or ls q no_leaf) (sym (mod-eq-sub-mod high)))

repeated_at : (n : ℕ) (ls : List Leaf) (p : ℕ) → p < n * length ls
    → get_or (repeated n ls) p no_leaf ≡ get_or ls (p % length ls) no_leaf
repeated_at zero ls p h = absurd (omega arith)
repeated_at (suc n) ls p h = repeated_case n ls p h (λ q k. repeated_at n ls q k) (cases_lt p (length ls))

leaves-Array : (known : List (List Leaf)) (of : Ty) (count : ℕ)
    → leaves_in known (ty.Array of count) ≡ together (repeated count (leaves_in known of))
leaves-Array known of count = search (rules, the_lemmas)

length-Array : (known : List (List Leaf)) (of : Ty) (count : ℕ)
    → length (leaves_in known (ty.Array of count)) ≡ count * length (leaves_in known of)
length-Array known of count =
    ap length (leaves-Array known of count) ∙ (length-together (repeated count (leaves_in known of))
    ∙ length-repeated count (leaves_in known of))

element_case : (ls : List Leaf) (count : ℕ) (s : Spot) → 0 < count → IsIn (together (repeated count ls)) s
    → Leads (together (repeated count ls)) s ls (in_element count s)
element_case ls count s some h =
    let whole : s.total ≡ count * length ls =
    h.counted ∙ (length-together (repeated count ls) ∙ length-repeated count ls) in
    let each : s.total / count ≡ length ls = ap (λ n. n / count) whole ∙ mul-div_cancel_left (length ls) some in
    let low : s.at < count * length ls = omega (arith, whole, h.within) in
    let long : s.at < length (repeated count ls) = rw (length-repeated count ls) low in
    let any : 0 < length ls = grind (arith, low) in
    let below : s.at % length ls < length ls = mod_below s.at (length ls) any in
    let all : length (repeated count ls) ≡ s.total = length-repeated count ls ∙ sym whole in
    record {
      is_in = record { within = rw each below; counted = each };
      same = sym (together_at (repeated count ls) s.asked s.at long
          ∙ (ap (λ n. answered_by (inside n s.at s.asked) (get_or (repeated count ls) s.at no_leaf)) all
          ∙ (ap (λ l. answered_by (inside s.total s.at s.asked) l) (repeated_at count ls s.at low)
          ∙ ap (λ n. answered_by (inside s.total s.at s.asked) (get_or ls (s.at % n) no_leaf)) (sym each))));
    }

element_leads : (known : List (List Leaf)) (t of : Ty) (count : ℕ) (s : Spot) → t ≡ ty.Array of count → 0 < count
    → IsIn (leaves_in known t) s → Leads (leaves_in known t) s (leaves_in known of) (in_element count s)
element_leads known t of count s e some h =
    let is : leaves_in known t ≡ together (repeated count (leaves_in known of)) =
    ap (leaves_in known) e ∙ leaves-Array known of count in
    let there : IsIn (together (repeated count (leaves_in known of))) s = subst (λ ls. IsIn ls s) is h in
    subst (λ ls. Leads ls s (leaves_in known of) (in_element count s)) (sym is)
    (element_case (leaves_in known of) count s some there)

-- ---- members

starts_head : (n : ℕ) (xs : List (List Leaf)) → get_or (starts_from n xs) 0 0 ≡ n
starts_head n [] = refl
starts_head n (x ∷ xs) = refl

length-starts : (n : ℕ) (xs : List (List Leaf)) → length (starts_from n xs) ≡ suc (length xs)
length-starts n [] = refl
length-starts n (x ∷ xs) = ap suc (length-starts (n + length x) xs)

starts_rise : (n : ℕ) (xs : List (List Leaf)) (i : ℕ) → i ≤ length xs → n ≤ get_or (starts_from n xs) i 0
starts_rise n [] zero h = omega arith
starts_rise n [] (suc i) h = absurd (omega arith)
starts_rise n (x ∷ xs) zero h = omega arith
starts_rise n (x ∷ xs) (suc i) h = omega (arith, starts_rise (n + length x) xs i (omega arith))

starts_last : (n : ℕ) (xs : List (List Leaf)) → get_or (starts_from n xs) (length xs) 0 ≡ n + length (joined xs)
starts_last n [] = omega arith
starts_last n (x ∷ xs) =
    starts_last (n + length x) xs ∙ omega (arith, length-append x (joined xs))

member_length : (n : ℕ) (xs : List (List Leaf)) (i : ℕ) → i < length xs
    → get_or (starts_from n xs) (suc i) 0 ≡ get_or (starts_from n xs) i 0 + length (get_or xs i [])
member_length n [] i h = absurd (omega arith)
member_length n (x ∷ xs) zero h = starts_head (n + length x) xs
member_length n (x ∷ xs) (suc i) h = member_length (n + length x) xs i (omega arith)

member_at : (n : ℕ) (xs : List (List Leaf)) (i at : ℕ) → i < length xs → get_or (starts_from n xs) i 0 ≤ n + at
    → n + at < get_or (starts_from n xs) (suc i) 0
    → get_or (joined xs) at no_leaf ≡ get_or (get_or xs i []) (n + at - get_or (starts_from n xs) i 0) no_leaf
member_at n [] i at h low high = absurd (omega arith)
member_at n (x ∷ xs) zero at h low high =
    let e : get_or (starts_from (n + length x) xs) 0 0 ≡ n + length x = starts_head (n + length x) xs in
    let here : at < length x = omega arith in
    let z : n + at - n ≡ at = omega arith in
    get_or_append_left x (joined xs) no_leaf at here ∙ ap (λ k. get_or x k no_leaf) (sym z)
member_at n (x ∷ xs) (suc i) at h low high =
    let up : n + length x ≤ get_or (starts_from (n + length x) xs) i 0 = starts_rise (n + length x) xs i (omega arith) in
    let past : length x ≤ at = omega arith in
    let z : n + length x + (at - length x) ≡ n + at = omega arith in
    get_or-append_right x (joined xs) (length x) at no_leaf refl past
    ∙ (member_at (n + length x) xs i (at - length x) (omega arith) (omega arith) (omega arith)
    ∙ ap (λ k. get_or (get_or xs i []) (k - get_or (starts_from (n + length x) xs) i 0) no_leaf) z)

-- ---- structs

abbrev one_struct : List (List Leaf) → Struct → List Leaf
one_struct known s = together (joined (member_leaves known s.members))

front : (known : List (List Leaf)) (ss : List Struct) (i : ℕ) → i < length known
    → get_or (struct_leaves known ss) i [] ≡ get_or known i []
front known [] i h = refl
front known (s ∷ ss) i h =
    let more : i < length (known ++ one_struct known s ∷ []) = rw (length-append known (one_struct known s ∷ [])) (omega arith) in
    front (known ++ one_struct known s ∷ []) ss i more ∙ get_or_append_left known (one_struct known s ∷ []) [] i h

struct_here : (known : List (List Leaf)) (ss : List Struct) (tag : ℕ) (s : Struct) → tag < length ss
    → get_or (struct_leaves known ss) (length known + tag) []
    ≡ one_struct (struct_leaves known (take tag ss)) (get_or ss tag s)
struct_here known [] tag s h = absurd (omega arith)
struct_here known (x ∷ ss) zero s h =
    let next : List (List Leaf) = known ++ one_struct known x ∷ [] in
    let z : length known + 0 ≡ length known = omega arith in
    let more : length known < length next = rw (length-append known (one_struct known x ∷ [])) (omega arith) in
    ap (λ k. get_or (struct_leaves next ss) k []) z
    ∙ (front next ss (length known) more ∙ get_or_at known (one_struct known x) [] [] (length known) refl)
struct_here known (x ∷ ss) (suc tag) s h =
    let next : List (List Leaf) = known ++ one_struct known x ∷ [] in
    let z : length known + suc tag ≡ length next + tag = rw (length-append known (one_struct known x ∷ [])) (omega arith) in
    ap (λ k. get_or (struct_leaves next ss) k []) z ∙ struct_here next ss tag s (omega arith)

leaves-tag : (known : List (List Leaf)) (tag : ℕ) → leaves_in known (ty.Struct tag) ≡ get_or known tag []
leaves-tag known tag = search (rules, the_lemmas)

leaves-Struct : (structs : List Struct) (bound tag : ℕ) (s : Struct) → tag < bound → tag < length structs
    → s ≡ get_or structs tag s
    → leaves_in (before structs bound) (ty.Struct tag) ≡ together (joined (member_leaves (before structs tag) s.members))
leaves-Struct structs bound tag s low there is =
    let z : 0 + tag ≡ tag = omega arith in
    let long : tag < length (take bound structs) = rw (length-take bound structs) (omega arith) in
    leaves-tag (before structs bound) tag
    ∙ (ap (λ k. get_or (before structs bound) k []) (sym z)
    ∙ (struct_here [] (take bound structs) tag s long
    ∙ (ap (λ ss. one_struct (struct_leaves [] ss) (get_or (take bound structs) tag s)) (take-take tag bound structs (omega arith))
    ∙ ap (one_struct (before structs tag)) (get_or-take bound structs tag s low ∙ sym is))))

member_case : (xs : List (List Leaf)) (i : ℕ) (s : Spot) → i < length xs → get_or (starts_from 0 xs) i 0 ≤ s.at
    → s.at < get_or (starts_from 0 xs) (suc i) 0 → IsIn (together (joined xs)) s
    → Leads (together (joined xs)) s (get_or xs i []) (in_member (get_or (starts_from 0 xs) i 0) (get_or (starts_from 0 xs) (suc i) 0) s)
member_case xs i s h low high in_it =
    let all : length (joined xs) ≡ s.total = sym (in_it.counted ∙ length-together (joined xs)) in
    let long : s.at < length (joined xs) = rw all in_it.within in
    let z : 0 + s.at ≡ s.at = omega arith in
    let each : get_or (starts_from 0 xs) (suc i) 0 ≡ get_or (starts_from 0 xs) i 0 + length (get_or xs i []) = member_length 0 xs i h in
    let here : get_or (joined xs) s.at no_leaf ≡ get_or (get_or xs i []) (s.at - get_or (starts_from 0 xs) i 0) no_leaf =
    member_at 0 xs i s.at h (omega arith) (omega arith) ∙ ap (λ k. get_or (get_or xs i []) (k - get_or (starts_from 0 xs) i 0) no_leaf) z in
    record {
      is_in = record { within = omega arith; counted = omega arith };
      same = sym (together_at (joined xs) s.asked s.at long
          ∙ (ap (λ n. answered_by (inside n s.at s.asked) (get_or (joined xs) s.at no_leaf)) all
          ∙ ap (λ l. answered_by (inside s.total s.at s.asked) l) here));
    }

member_leads : (structs : List Struct) (bound tag i : ℕ) (t : Ty) (s : Struct) (m : Member) (kept : List ℕ) (p : Spot)
    → t ≡ ty.Struct tag → tag < bound → tag < length structs → s ≡ get_or structs tag s → i < length s.members
    → m ≡ get_or s.members i m → kept ≡ starts structs tag s.members → get_or kept i 0 ≤ p.at → p.at < get_or kept (i + 1) 0
    → IsIn (leaves_in (before structs bound) t) p
    → Leads (leaves_in (before structs bound) t) p (leaves_in (before structs tag) m.ty)
    (in_member (get_or kept i 0) (get_or kept (i + 1) 0) p)
member_leads structs bound tag i t s m kept p e low there is h here k first next in_it =
    let xs : List (List Leaf) = member_leaves (before structs tag) s.members in
    let whole : leaves_in (before structs bound) t ≡ together (joined xs) =
    ap (leaves_in (before structs bound)) e ∙ leaves-Struct structs bound tag s low there is in
    let one : get_or xs i [] ≡ leaves_in (before structs tag) m.ty =
    get_or-map (λ (x : Member). leaves_in (before structs tag) x.ty) s.members i m [] h
    ∙ ap (λ (x : Member). leaves_in (before structs tag) x.ty) (sym here) in
    let long : i < length xs = rw (length-map s.members (λ (x : Member). leaves_in (before structs tag) x.ty)) h in
    let suc_is : i + 1 ≡ suc i = omega arith in
    let a : get_or kept i 0 ≡ get_or (starts_from 0 xs) i 0 = ap (λ ns. get_or ns i 0) k in
    let b : get_or kept (i + 1) 0 ≡ get_or (starts_from 0 xs) (suc i) 0 =
    ap (λ ns. get_or ns (i + 1) 0) k ∙ ap (λ n. get_or (starts_from 0 xs) n 0) suc_is in
    let there : IsIn (together (joined xs)) p = subst (λ ls. IsIn ls p) whole in_it in
    let leads : Leads (together (joined xs)) p (get_or xs i [])
    (in_member (get_or (starts_from 0 xs) i 0) (get_or (starts_from 0 xs) (suc i) 0) p) =
    member_case xs i p long (omega arith) (omega arith) there in
    subst (λ ls. Leads ls p (leaves_in (before structs tag) m.ty) (in_member (get_or kept i 0) (get_or kept (i + 1) 0) p)) (sym whole)
    (subst (λ ls. Leads (together (joined xs)) p ls (in_member (get_or kept i 0) (get_or kept (i + 1) 0) p)) one
    (subst (λ n. Leads (together (joined xs)) p (get_or xs i []) (in_member n (get_or kept (i + 1) 0) p)) (sym a)
    (subst (λ n. Leads (together (joined xs)) p (get_or xs i []) (in_member (get_or (starts_from 0 xs) i 0) n p)) (sym b) leads)))

-- ---- one scalar

abbrev one : Ty → List Leaf
one t = record { ty = t; begins = 1 ∷ [] } ∷ []

one_asked : (t : Ty) (n : ℕ) (asked : Asked) → n ≡ 1
    → answered_by asked (record { ty = t; begins = 1 ∷ [] }) ≡ record { ty = t; object = searched (inside n 0 asked) [] }
one_asked t n asked e =
    asked_inside asked 1 (record { ty = t; begins = [] })
    ∙ ap (λ k. let a : Answered = record { ty = t; object = searched (inside k 0 asked) [] } in a) (sym e)

one_case : (t : Ty) (total at : ℕ) (asked : Asked) → at < total → total ≡ 1
    → answered_by asked (get_or (one t) at no_leaf) ≡ record { ty = t; object = searched (inside total at asked) [] }
one_case t total zero asked h e = one_asked t total asked e
one_case t total (suc at) asked h e = absurd (omega arith)

alone_answered : (ls : List Leaf) (t : Ty) (s : Spot) → ls ≡ one t → IsIn ls s
    → answered ls s ≡ record { ty = t; object = searched (inside s.total s.at s.asked) [] }
alone_answered ls t s e h =
    ap (λ xs. answered_by s.asked (get_or xs s.at no_leaf)) e
    ∙ one_case t s.total s.at s.asked h.within (h.counted ∙ ap length e)

leaves-Num : (known : List (List Leaf)) (of : IntType) → leaves_in known (ty.Num of) ≡ one (ty.Num of)
leaves-Num known of = search (rules, the_lemmas)

abbrev parts : List (List Leaf) → Ty → Parts
parts known t = fold-Ty Parts (leaf_step known) t

module _ (known : List (List Leaf)) where
  abbrev IsWhole : Ty → Type 0
  IsWhole t = (parts known t).whole ≡ t

  whole_layer : {A : Type 0} (fa : A → Ty) → ((a : A) → IsWhole (fa a)) → (y : Ty-F A) → IsWhole (roll-Ty (map-Ty A Ty fa y))
  whole_layer fa ha Ty-F.Void = search (rules, the_lemmas)
  whole_layer fa ha (Ty-F.Num t) = search (rules, the_lemmas)
  whole_layer fa ha (Ty-F.Pointer to readonly) =
      let e : (parts known (roll-Ty (Ty-F.Pointer (fa to) readonly))).whole ≡ ty.Pointer (parts known (fa to)).whole readonly =
      search (rules, the_lemmas) in
      let f : ty.Pointer (fa to) readonly ≡ roll-Ty (Ty-F.Pointer (fa to) readonly) = search (rules, the_lemmas) in
      e ∙ (ap (λ t. ty.Pointer t readonly) (ha to) ∙ f)
  whole_layer fa ha (Ty-F.Array of count) =
      let e : (parts known (roll-Ty (Ty-F.Array (fa of) count))).whole ≡ ty.Array (parts known (fa of)).whole count =
      search (rules, the_lemmas) in
      let f : ty.Array (fa of) count ≡ roll-Ty (Ty-F.Array (fa of) count) = search (rules, the_lemmas) in
      e ∙ (ap (λ t. ty.Array t count) (ha of) ∙ f)
  whole_layer fa ha (Ty-F.Struct tag) = search (rules, the_lemmas)

  is_whole : (t : Ty) → IsWhole t
  is_whole = ind-Ty IsWhole (λ x y is. subst (λ z. IsWhole (roll-Ty z)) is (whole_layer (λ e. e.0) (λ e. e.1) y))

leaves-Pointer : (known : List (List Leaf)) (to : Ty) (readonly : Bool)
    → leaves_in known (ty.Pointer to readonly) ≡ one (ty.Pointer to readonly)
leaves-Pointer known to readonly =
    let e : leaves_in known (ty.Pointer to readonly) ≡ one (ty.Pointer (parts known to).whole readonly) =
    search (rules, the_lemmas) in
    e ∙ ap (λ t. one (ty.Pointer t readonly)) (is_whole known to)

number_answered : (known : List (List Leaf)) (t : Ty) (of : IntType) (s : Spot) → t ≡ ty.Num of → IsIn (leaves_in known t) s
    → answered (leaves_in known t) s ≡ record { ty = t; object = searched (inside s.total s.at s.asked) [] }
number_answered known t of s e h =
    alone_answered (leaves_in known t) t s (ap (leaves_in known) e ∙ (leaves-Num known of ∙ ap one (sym e))) h

pointer_answered : (known : List (List Leaf)) (t to : Ty) (readonly : Bool) (s : Spot) → t ≡ ty.Pointer to readonly
    → IsIn (leaves_in known t) s
    → answered (leaves_in known t) s ≡ record { ty = t; object = searched (inside s.total s.at s.asked) [] }
pointer_answered known t to readonly s e h =
    alone_answered (leaves_in known t) t s (ap (leaves_in known) e ∙ (leaves-Pointer known to readonly ∙ ap one (sym e))) h

-- ---- counting

struct_at : (structs : List Struct) (known : List (Option (List ℕ))) (at : ℕ) (kept : List ℕ) (s : Struct)
    → IsCounted known structs → at < length known → s ≡ get_or structs at s → Some kept ≡ get_or known at None
    → get_or kept (length kept - 1) 0 ≡ length (leaves_in (before structs (length known)) (ty.Struct at))
struct_at structs known at kept s all h is here =
    let xs : List (List Leaf) = member_leaves (before structs at) s.members in
    let k : Keeps (get_or known at None) (starts structs at s.members) = all.kept at s h is in
    let e : kept ≡ starts_from 0 xs = subst (λ o. Keeps o (starts structs at s.members)) (sym here) k in
    let long : length kept - 1 ≡ length xs = omega (arith, ap length e, length-starts 0 xs) in
    let there : at < length structs = omega (arith, all.within) in
    let whole : length (leaves_in (before structs (length known)) (ty.Struct at)) ≡ length (joined xs) =
    ap length (leaves-Struct structs (length known) at s h there is) ∙ length-together (joined xs) in
    let z : 0 + length (joined xs) ≡ length (joined xs) = omega arith in
    ap (λ ns. get_or ns (length kept - 1) 0) e ∙ (ap (λ n. get_or (starts_from 0 xs) n 0) long
    ∙ (starts_last 0 xs ∙ (z ∙ sym whole)))

nobody : Struct
nobody = record { name = []; members = [] }

pub kept_total : (structs : List Struct) (known : List (Option (List ℕ))) (at : ℕ) (kept : List ℕ) (here : Option (List ℕ))
    (r : Option ℕ) → IsCounted known structs → at < length known → here ≡ get_or known at here → here ≡ Some kept
    → IfSome r (λ n. n ≡ get_or kept (length kept - 1) 0)
    → IfSome r (λ n. n ≡ length (leaves_in (before structs (length known)) (ty.Struct at)))
kept_total structs known at kept here None all h is some e = tt
kept_total structs known at kept here (Some n) all h is some e =
    let s : Struct = get_or structs at nobody in
    let there : at < length structs = omega (arith, all.within) in
    let read : s ≡ get_or structs at s = get_or_default structs at nobody s there in
    let found : Some kept ≡ get_or known at None = sym some ∙ (is ∙ get_or_default known at here None h) in
    e ∙ struct_at structs known at kept s all h read found

pub count_step : (known : List (List Leaf)) (t of : Ty) (count more n whole : ℕ) → t ≡ ty.Array of more → n ≡ count * more
    → count * length (leaves_in known t) ≡ whole → n * length (leaves_in known of) ≡ whole
count_step known t of count more n whole e m h =
    let one : length (leaves_in known t) ≡ more * length (leaves_in known of) =
    ap (λ x. length (leaves_in known x)) e ∙ length-Array known of more in
    let p : ℕ = length (leaves_in known of) in
    let q : ℕ = length (leaves_in known t) in
    let first : n * p ≡ count * more * p = ap (λ k. k * p) m in
    let next : count * (more * p) ≡ count * q = ap (λ k. count * k) (sym one) in
    first ∙ (omega arith ∙ (next ∙ h))

pub starts_turn : (structs : List Struct) (n i sum count : ℕ) (ms : List Member) (m : Member) (made : List ℕ) → i < length ms
    → m ≡ get_or ms i m → count ≡ length (leaves_in (before structs n) m.ty)
    → made ++ starts_from sum (member_leaves (before structs n) (drop i ms))
    ≡ (made ++ sum ∷ []) ++ starts_from (sum + count) (member_leaves (before structs n) (drop (i + 1) ms))
starts_turn structs n i sum count ms m made h is e =
    let cut : drop i ms ≡ m ∷ drop (i + 1) ms = drop_more ms i m h ∙ ap (λ x. x ∷ drop (i + 1) ms) (sym is) in
    let known : List (List Leaf) = before structs n in
    ap (λ all. made ++ starts_from sum (member_leaves known all)) cut
    ∙ (ap (λ k. made ++ sum ∷ starts_from (sum + k) (member_leaves known (drop (i + 1) ms))) (sym e)
    ∙ sym (append_assoc made (sum ∷ []) (starts_from (sum + count) (member_leaves known (drop (i + 1) ms)))))

pub starts_end : (structs : List Struct) (n i sum : ℕ) (ms : List Member) (made : List ℕ) → length ms ≤ i
    → made ++ starts_from sum (member_leaves (before structs n) (drop i ms)) ≡ made ++ sum ∷ []
starts_end structs n i sum ms made h =
    ap (λ all. made ++ starts_from sum (member_leaves (before structs n) all)) (drop_all i ms h)

kept_case : (structs : List Struct) (known : List (Option (List ℕ))) (kept : Option (List ℕ)) (s : Struct)
    → IsCounted known structs → s ≡ get_or structs (length known) s → Keeps kept (starts structs (length known) s.members)
    → (i : ℕ) (t : Struct) → i < length (known ++ kept ∷ []) → t ≡ get_or structs i t → length known < length structs
    → (i < length known) ⊎ (length known ≤ i)
    → Keeps (get_or (known ++ kept ∷ []) i None) (starts structs i t.members)
kept_case structs known kept s all is k i t h read there (inl low) =
    subst (λ o. Keeps o (starts structs i t.members)) (sym (get_or_append_left known (kept ∷ []) None i low))
    (all.kept i t low read)
kept_case structs known kept s all is k i t h read there (inr high) =
    let long : length (known ++ kept ∷ []) ≡ length known + 1 = length-append known (kept ∷ []) in
    let e : length known ≡ i = omega arith in
    let same : t ≡ s = get_or_read structs i t (rw (← e) there) read s ∙ (ap (λ n. get_or structs n s) (sym e) ∙ sym is) in
    subst (λ o. Keeps o (starts structs i t.members)) (sym (get_or_push known kept None i e))
    (subst (λ x. Keeps kept (starts structs i x.members)) (sym same) (subst (λ n. Keeps kept (starts structs n s.members)) e k))

pub counted_turn : (structs : List Struct) (known more : List (Option (List ℕ))) (kept : Option (List ℕ)) (i : ℕ) (s : Struct)
    → i < length structs → s ≡ get_or structs i s → IsCounted known structs → length known ≡ i
    → Keeps kept (starts structs (length known) s.members) → more ≡ known ++ kept ∷ []
    → IsCounted more structs
counted_turn structs known more kept i s h is all long k e =
    let there : length known < length structs = rw long h in
    let read : s ≡ get_or structs (length known) s = rw long is in
    let some : length (known ++ kept ∷ []) ≡ length known + 1 = length-append known (kept ∷ []) in
    let these : IsCounted (known ++ kept ∷ []) structs = record {
      within = omega arith;
      kept = λ j t low at_j. kept_case structs known kept s all read k j t low at_j there (cases_lt j (length known));
    } in
    subst (λ m. IsCounted m structs) (sym e) these

-- ---- walking down

pub leads_here : (ls : List Leaf) (s : Spot) → IsIn ls s → Leads ls s ls s
leads_here ls s h = record { is_in = h; same = refl }

pub leads_on : (ls ms ns : List Leaf) (s t u : Spot) → Leads ls s ms t → Leads ms t ns u → Leads ls s ns u
leads_on ls ms ns s t u a b = record { is_in = b.is_in; same = b.same ∙ a.same }

pub leads_element : (known : List (List Leaf)) (ls : List Leaf) (t of : Ty) (count : ℕ) (s p q : Spot) → t ≡ ty.Array of count
    → 0 < count → q ≡ in_element count p → Leads ls s (leaves_in known t) p → Leads ls s (leaves_in known of) q
leads_element known ls t of count s p q e some is a =
    subst (λ x. Leads ls s (leaves_in known of) x) (sym is)
    (leads_on ls (leaves_in known t) (leaves_in known of) s p (in_element count p) a (element_leads known t of count p e some a.is_in))

abbrev pub first : ℕ → ℕ → ℕ → Spot
first total at outer = record { total = total; at = at; asked = Within outer }

module _ (structs : List Struct) (known : List (Option (List ℕ))) (t : Ty) (total at outer : ℕ) where
  pub counted_all : length known ≡ length structs → total ≡ length (leaves_in (before structs (length known)) t)
      → total ≡ length (leaves structs t)
  counted_all long e =
      e ∙ (ap (λ n. length (leaves_in (before structs n) t)) long
      ∙ ap (λ ss. length (leaves_in (struct_leaves [] ss) t)) (take_all (length structs) structs (omega arith)))

  pub leads_first : length known ≡ length structs → total ≡ length (leaves_in (before structs (length known)) t) → at < total
      → Leads (leaves structs t) (first total at outer) (leaves_in (before structs (length structs)) t) (first total at outer)
  leads_first long e low =
      let all : struct_leaves [] (take (length structs) structs) ≡ struct_leaves [] structs =
      ap (struct_leaves []) (take_all (length structs) structs (omega arith)) in
      subst (λ k. Leads (leaves structs t) (first total at outer) (leaves_in k t) (first total at outer)) (sym all)
      (leads_here (leaves structs t) (first total at outer) (record { within = low; counted = counted_all long e }))

  pub within_all : length known ≡ length structs → total ≡ length (leaves_in (before structs (length known)) t) → at < total
      → at < length (leaves structs t)
  within_all long e low = omega (arith, counted_all long e)

ends : (ls ms : List Leaf) (t : Ty) (total at outer : ℕ) (s : Spot) (object : Option ℕ)
    → Leads ls (first total at outer) ms s
    → answered ms s ≡ record { ty = t; object = searched (inside s.total s.at s.asked) [] }
    → object ≡ searched (inside s.total s.at s.asked) [] → IsAnswered ls at outer t object
ends ls ms t total at outer s object a here is =
    let e : record { ty = t; object = searched (inside s.total s.at s.asked) [] } ≡ answered ls (first total at outer) =
    sym here ∙ a.same in
    record { ty = ap (λ (x : Answered). x.ty) e; object = is ∙ ap (λ (x : Answered). x.object) e }

number_ends : (ls : List Leaf) (known : List (List Leaf)) (t : Ty) (of : IntType) (total at outer : ℕ) (s : Spot)
    (object : Option ℕ) → t ≡ ty.Num of → Leads ls (first total at outer) (leaves_in known t) s
    → object ≡ searched (inside s.total s.at s.asked) [] → IsAnswered ls at outer t object
number_ends ls known t of total at outer s object e a is =
    ends ls (leaves_in known t) t total at outer s object a (number_answered known t of s e a.is_in) is

pointer_ends : (ls : List Leaf) (known : List (List Leaf)) (t to : Ty) (readonly : Bool) (total at outer : ℕ) (s : Spot)
    (object : Option ℕ) → t ≡ ty.Pointer to readonly → Leads ls (first total at outer) (leaves_in known t) s
    → object ≡ searched (inside s.total s.at s.asked) [] → IsAnswered ls at outer t object
pointer_ends ls known t to readonly total at outer s object e a is =
    ends ls (leaves_in known t) t total at outer s object a (pointer_answered known t to readonly s e a.is_in) is

pub member_found : (structs : List Struct) (known : List (Option (List ℕ))) (bound tag i : ℕ) (s : Struct) (m : Member)
    (kept : List ℕ) (here : Option (List ℕ)) (p q : Spot) → IsCounted known structs → tag < length known → tag < length structs
    → tag < bound → here ≡ get_or known tag here → here ≡ Some kept → s ≡ get_or structs tag s → i < length s.members
    → m ≡ get_or s.members i m → IsMember kept p.at i → q ≡ in_member (get_or kept i 0) (get_or kept (i + 1) 0) p
    → IsIn (leaves_in (before structs bound) (ty.Struct tag)) p
    → Leads (leaves_in (before structs bound) (ty.Struct tag)) p (leaves_in (before structs tag) m.ty) q
member_found structs known bound tag i s m kept here p q all h there low is some read j at_i member e in_it =
    let found : Some kept ≡ get_or known tag None = sym some ∙ (is ∙ get_or_default known tag here None h) in
    let k : kept ≡ starts structs tag s.members =
    subst (λ o. Keeps o (starts structs tag s.members)) (sym found) (all.kept tag s h read) in
    subst (λ x. Leads (leaves_in (before structs bound) (ty.Struct tag)) p (leaves_in (before structs tag) m.ty) x) (sym e)
    (member_leads structs bound tag i (ty.Struct tag) s m kept p refl low there read j at_i k member.first member.next in_it)

pub scalar_ends : (ls : List Leaf) (known : List (List Leaf)) (t : Ty) (total at outer : ℕ) (s : Spot) (object : Option ℕ)
    → ((of : IntType) × (t ≡ ty.Num of)) ⊎ ((to : Ty) × (readonly : Bool) × (t ≡ ty.Pointer to readonly))
    → Leads ls (first total at outer) (leaves_in known t) s → object ≡ searched (inside s.total s.at s.asked) []
    → IsAnswered ls at outer t object
scalar_ends ls known t total at outer s object (inl n) a is = number_ends ls known t n.0 total at outer s object n.1 a is
scalar_ends ls known t total at outer s object (inr p) a is =
    pointer_ends ls known t p.0 p.1 total at outer s object p.2 a is
