-- A source is one list of tokens or has one refusal, and what the lexer has reached leads to it.
use Rattle.std.proofs.Common.{◌≡◌, ℕ, zero, suc, ◌+◌, ◌<◌, ◌≤◌, inl, inr, Bool, List, [], ◌∷◌, ◌++◌, length, take, drop, Some, Result, Ok, Err, refl, ap, sym, subst, arith, append_assoc, length-drop}
use Rattle.std.proofs.lemmas.Bool.{cases_order, cases_lt}
use Rattle.c_lex.specs.declared.token.Token.{Token as AToken}
use Rattle.c_lex.specs.declared.item.Item.{Item}
use Rattle.c_lex.specs.declared.item.Item.TheVariants.{Skip, Token, Bad}
use Rattle.c_lex.specs.declared.item.LexErr.{LexErr}
use Rattle.c_lex.specs.Spelling.{Text}
use Rattle.c_lex.specs.Pieces.{piece, Longest, Stuck}
use Rattle.c_lex.specs.Tokens.{line_at, fresh_at, token_at, Lexes, done, skip, one, refusal, Refuses, IsDecided, stuck, broken, behind_skip, behind_token}
use Rattle.c_lex.specs.Measures.{piece_len, kept}
use Rattle.c_lex.proofs.Measured.{Measured, nowhere, measured, is_measured, nil_piece}

-- ---- the longest piece is one

pub positive : {fresh : Bool} {text : Text} {n : ℕ} {item : Item} → Longest fresh text n item → 0 < n
positive {fresh} {n = zero} m = let e = nil_piece fresh in let f = m.is in absurd (cc)
positive {n = suc n} m = omega arith

no_longer : {fresh : Bool} {text : Text} {n k : ℕ} {i j : Item} → Longest fresh text n i → Longest fresh text k j → n < k → ⊥
no_longer a b h = let e = a.longest _ h b.within in let f = b.is in cc

same_length : {fresh : Bool} {text : Text} {n k : ℕ} {i j : Item} → Longest fresh text n i → Longest fresh text k j → n ≡ k
same_length {n} {k} a b = elim (cases_order n k) [
  | inl e ↦ e
  | inr o ↦
      elim o [ inl h ↦ absurd (no_longer a b h) | inr h ↦ absurd (no_longer b a h) ]
]

same_item : {fresh : Bool} {text : Text} {n k : ℕ} {i j : Item} → Longest fresh text n i → Longest fresh text k j → i ≡ j
same_item {fresh} {text} a b = let e = ap (λ n. piece fresh (take n text)) (same_length a b) in let f = a.is in let g = b.is in cc

not_stuck : {fresh : Bool} {text : Text} {n : ℕ} {i : Item} → Longest fresh text n i → Stuck fresh text → ⊥
not_stuck a h = let e = h _ a.within in let f = a.is in cc

-- no piece begins at the end
not_at_end : (source : Text) (at : ℕ) {n : ℕ} {i : Item} → length source ≤ at
    → Longest (fresh_at source at) (drop at source) n i → ⊥
not_at_end source at h m = let p = positive m in absurd (omega (arith, m.within, length-drop at source))

module _ {source : Text} where
  -- ---- a source is one list of tokens

  pub lexes_one : {at : ℕ} {ts us : List AToken} → Lexes source at ts → Lexes source at us → ts ≡ us
  lexes_one (done h) (done g) = refl
  lexes_one (done h) (skip b m) = absurd (not_at_end source _ h b)
  lexes_one (done h) (one b m) = absurd (not_at_end source _ h b)
  lexes_one (skip a l) (done h) = absurd (not_at_end source _ h a)
  lexes_one (one a l) (done h) = absurd (not_at_end source _ h a)
  lexes_one (skip a l) (one b m) = let e = same_item a b in cc
  lexes_one (one a l) (skip b m) = let e = same_item a b in cc
  lexes_one {at} {us} (skip a l) (skip b m) = lexes_one l (subst (λ n. Lexes source (at + n) us) (same_length b a) m)
  lexes_one {at} (one {n} {kind = x} {ts} a l) (one {n = k} {kind = y} {ts = us} b m) =
      let e : x ≡ y = (let z = same_item a b in cc) in
      let w : n ≡ k = same_length a b in
      let t = lexes_one l (subst (λ n. Lexes source (at + n) us) (same_length b a) m) in
      cc

  -- ---- a source that is tokens has no refusal

  pub not_both : {at : ℕ} {ts : List AToken} {e : LexErr} → Lexes source at ts → Refuses source at e → ⊥
  not_both (done h) (stuck some g) = absurd (omega arith)
  not_both (done h) (broken b) = not_at_end source _ h b
  not_both (done h) (behind_skip b r) = not_at_end source _ h b
  not_both (done h) (behind_token b r) = not_at_end source _ h b
  not_both (skip a l) (stuck some h) = not_stuck a h
  not_both (skip a l) (broken b) = let z = same_item a b in cc
  not_both {at} {e} (skip a l) (behind_skip b r) = not_both l (subst (λ n. Refuses source (at + n) e) (same_length b a) r)
  not_both (skip a l) (behind_token b r) = let z = same_item a b in cc
  not_both (one a l) (stuck some h) = not_stuck a h
  not_both (one a l) (broken b) = let z = same_item a b in cc
  not_both (one a l) (behind_skip b r) = let z = same_item a b in cc
  not_both {at} {e} (one a l) (behind_token b r) = not_both l (subst (λ n. Refuses source (at + n) e) (same_length b a) r)

  -- ---- a source has one refusal

  pub refuses_one : {at : ℕ} {e f : LexErr} → Refuses source at e → Refuses source at f → e ≡ f
  refuses_one (stuck some h) (stuck more g) = refl
  refuses_one (stuck some h) (broken b) = absurd (not_stuck b h)
  refuses_one (stuck some h) (behind_skip b r) = absurd (not_stuck b h)
  refuses_one (stuck some h) (behind_token b r) = absurd (not_stuck b h)
  refuses_one (broken a) (stuck some h) = absurd (not_stuck a h)
  refuses_one {at} (broken {f = x} a) (broken {f = y} b) = let z : x ≡ y = (let w = same_item a b in cc) in
      ap (λ f. refusal f at) z
  refuses_one (broken a) (behind_skip b r) = let z = same_item a b in cc
  refuses_one (broken a) (behind_token b r) = let z = same_item a b in cc
  refuses_one (behind_skip a q) (stuck some h) = absurd (not_stuck a h)
  refuses_one (behind_skip a q) (broken b) = let z = same_item a b in cc
  refuses_one {at} {f} (behind_skip a q) (behind_skip b r) =
      refuses_one q (subst (λ n. Refuses source (at + n) f) (same_length b a) r)
  refuses_one (behind_skip a q) (behind_token b r) = let z = same_item a b in cc
  refuses_one (behind_token a q) (stuck some h) = absurd (not_stuck a h)
  refuses_one (behind_token a q) (broken b) = let z = same_item a b in cc
  refuses_one (behind_token a q) (behind_skip b r) = let z = same_item a b in cc
  refuses_one {at} {f} (behind_token a q) (behind_token b r) =
      refuses_one q (subst (λ n. Refuses source (at + n) f) (same_length b a) r)

-- ---- what the lexer has reached

-- the tokens found before a place go on with those from there, and a refusal from there is the source's
pub record Reached (source : Text) (at : ℕ) (found : List AToken) : Type 0 where
  pub lexes : (ts : List AToken) → Lexes source at ts → Lexes source 0 (found ++ ts)
  pub refuses : (e : LexErr) → Refuses source at e → Refuses source 0 e

pub reached_start : (source : Text) → Reached source 0 []
reached_start source = record { lexes = λ ts l. l; refuses = λ e r. r }

-- a turn of the lexer goes on behind the piece, or ends
pub data Turn (source : Text) (at n : ℕ) : Result (List AToken) LexErr → Type 0 where
  went : {ts : List AToken} → 0 < n → Reached source (at + n) ts → Turn source at n (Ok ts)
  ended : {e : LexErr} → Refuses source 0 e → Turn source at n (Err e)

module _ (source : Text) (at : ℕ) (found : List AToken) (r : Reached source at found) (some : at < length source) where
  item_turn : (n : ℕ) (item : Item) → Longest (fresh_at source at) (drop at source) n item
      → Turn source at n (kept (Some item) at (at + n) (line_at source at) found)
  item_turn n Skip m = went (positive m)
      (record { lexes = λ ts l. r.lexes ts (skip m l); refuses = λ e f. r.refuses e (behind_skip m f) })
  item_turn n (Token kind) m = went (positive m) (record {
    lexes = λ ts l. subst (Lexes source 0) (sym (append_assoc found (token_at source at n kind ∷ []) ts))
        (r.lexes (token_at source at n kind ∷ ts) (one m l));
    refuses = λ e f. r.refuses e (behind_token m f);
  })
  item_turn n (Bad f) m = ended (r.refuses (refusal f at) (broken m))

  turn : (n : ℕ) → Measured (fresh_at source at) (drop at source) n
      → Turn source at n (kept (piece (fresh_at source at) (take n (drop at source))) at (at + n) (line_at source at) found)
  turn n (nowhere h) = rw (nil_piece (fresh_at source at)) (ended (r.refuses _ (stuck some h)))
  turn n (measured {item} p m) = rw (m.is) (item_turn n item m)

  pub next_turn : (n : ℕ) → n ≡ piece_len (fresh_at source at) (drop at source)
      → Turn source at n (kept (piece (fresh_at source at) (take n (drop at source))) at (at + n) (line_at source at) found)
  next_turn n e = turn n (subst (Measured (fresh_at source at) (drop at source)) (sym e)
      (is_measured (fresh_at source at) (drop at source)))

turn_on : {source : Text} {at n : ℕ} {ts : List AToken} → Turn source at n (Ok ts) → (0 < n) × Reached source (at + n) ts
turn_on (went p r) = (p, r)

turn_off : {source : Text} {at n : ℕ} {e : LexErr} → Turn source at n (Err e) → Refuses source 0 e
turn_off (ended r) = r

-- a turn that went on
pub goes_on : {source : Text} {at n : ℕ} {o : Result (List AToken) LexErr} {ts : List AToken} → Turn source at n o → o ≡ Ok ts
    → (0 < n) × Reached source (at + n) ts
goes_on {source} {at} {n} t e = turn_on (subst (Turn source at n) e t)

-- a turn that ended
pub ends : {source : Text} {at n : ℕ} {o : Result (List AToken) LexErr} {e : LexErr} → Turn source at n o → o ≡ Err e
    → Refuses source 0 e
ends {source} {at} {n} t e = turn_off (subst (Turn source at n) e t)

-- ---- each source is tokens or has a refusal

decides_by : (source : Text) (at n : ℕ) (item : Item) → Longest (fresh_at source at) (drop at source) n item
    → (0 < n → IsDecided source (at + n)) → IsDecided source at
decides_by source at n Skip m next =
    elim (next (positive m)) [ inl x ↦ inl (x.0, skip m x.1) | inr x ↦ inr (x.0, behind_skip m x.1) ]
decides_by source at n (Token kind) m next =
    elim (next (positive m)) [
      | inl x ↦ inl (token_at source at n kind ∷ x.0, one m x.1)
      | inr x ↦
          inr (x.0, behind_token m x.1)
    ]
decides_by source at n (Bad f) m next = inr (refusal f at, broken m)

decides_at : (source : Text) (at n : ℕ) → Measured (fresh_at source at) (drop at source) n → at < length source
    → (0 < n → IsDecided source (at + n)) → IsDecided source at
decides_at source at n (nowhere h) some next = inr (_, stuck some h)
decides_at source at n (measured {item} p m) some next = decides_by source at n item m next

decides_from : (turns : ℕ) (source : Text) (at : ℕ) → length source ≤ at + turns → IsDecided source at
decides_from zero source at h = inl ([], done (omega arith))
decides_from (suc turns) source at h = elim (cases_lt at (length source)) [
  | inl some ↦ decides_at source at _ (is_measured (fresh_at source at) (drop at source)) some
      (λ p. decides_from turns source (at + piece_len (fresh_at source at) (drop at source)) (omega arith))
  | inr past ↦ inl ([], done past)
]

pub decides : (source : Text) → IsDecided source 0
decides source = decides_from (length source) source 0 (omega arith)
