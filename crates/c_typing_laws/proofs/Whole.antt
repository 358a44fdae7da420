-- Every expression with no fault is lawful, by induction over expressions.
use Rattle.std.proofs.Common.{◌≡◌, ℕ, Bool, true, ◌&&◌, List, [], ◌∷◌, ◌++◌, map, nat_le, Option, Some, None, Result, Ok, Err, refl, sym, ap, ◌∙◌, rules}
use Rattle.c_tree.specs.declared.expression.Expr.{Expr as Source, Expr-F, map-Expr, roll-Expr, the_lemmas as expr_lemmas}
use Rattle.c_tree.specs.declared.expression.ExprKind.{ExprKind as SourceKind, out-ExprKind, roll-ExprKind, map-ExprKind, ind-ExprKind, the_lemmas}
use Rattle.c_tree.specs.declared.expression.ExprKind.TheOpen.{ExprKind-F}
use Rattle.c_tree.specs.declared.expression.ExprKind.TheVariants as k
use Rattle.c_tree.specs.declared.expression.Typename.{Typename}
use Rattle.core_tree.specs.Lawful.{Scope}
use Rattle.c_typing.specs.declared.fault.Rule.{Rule}
use Rattle.c_typing.specs.declared.operand.Operand.{Operand}
use Rattle.c_typing.specs.declared.environment.Env.{Env}
use Rattle.c_typing.specs.Outcome.{Outcome, ◌>>=◌, told}
use Rattle.c_typing.specs.Expressions.{Use, plain, size, sources, used, operands, channel_line, row, in_order, node, kind_means, means, sizes_of}
use Rattle.c_typing.proofs.Walked.{is_walked}
use Rattle.c_typing_laws.specs.Sound.{Agrees, IsDefined, AreDefined, SoundOperand, Fitting, fitting, fits, called_fits, all_fit, MeansIsLawful}
use Rattle.c_typing_laws.proofs.Same.{both_hold}
use Rattle.c_typing_laws.proofs.Names.{IsNameOf, function_named}
use Rattle.c_typing_laws.proofs.Rows.{Sounds, Asked, row_sound}

told_ok : (own channel : ℕ) (r : Result Operand Rule) (x : Operand) → told own channel r ≡ Ok x → r ≡ Ok x
told_ok own channel (Ok a) x is = let e : a ≡ x = cc in rw e refl
told_ok own channel (Err rule) x is = absurd (search rules)

record Walk (m : Outcome (List Operand)) (by : List Operand → Result Operand Rule) (x : Operand) : Type 0 where
  found : List Operand
  walked : m ≡ Ok found
  granted : by found ≡ Ok x

walk_of : (m : Outcome (List Operand)) (own channel : ℕ) (by : List Operand → Result Operand Rule) (x : Operand)
    → (m >>= λ xs. told own channel (by xs)) ≡ Ok x → Walk m by x
walk_of (Err f) own channel by x is = absurd (search rules)
walk_of (Ok xs) own channel by x is = record { found = xs; walked = refl; granted = told_ok own channel (by xs) x is }

module _ (env : Env) (s : Scope) where
  -- what these operands mean is lawful
  abbrev SoundUses : List (Use Source) → Type 0
  SoundUses [] = Unit {0}
  SoundUses (plain e ∷ us) = ((x : Operand) → means env e ≡ Ok x → SoundOperand env s x) × SoundUses us
  SoundUses (size e ∷ us) = SoundUses us

  sounds_by : (u : Use Source) (us : List (Use Source)) (o : Outcome Operand) (rest : Outcome (List Operand))
      (xs : List Operand) → used (sources env) u ≡ o → in_order (map (used (sources env)) us) ≡ rest
      → ((ys : List Operand) → rest ≡ Ok ys → Sounds env s us ys) → SoundUses (u ∷ us)
      → (o >>= λ a. rest >>= λ more. Ok (a ∷ more)) ≡ Ok xs → Sounds env s (u ∷ us) xs
  sounds_by u us (Err f) rest xs at_u at_us deeper so is = absurd (search rules)
  sounds_by u us (Ok a) (Err f) xs at_u at_us deeper so is = absurd (search rules)
  sounds_by (plain e) us (Ok a) (Ok more) xs at_u at_us deeper so is =
      let h : a ∷ more ≡ xs = cc in rw (← h) ((so.0 a at_u, at_u), deeper more refl)
  sounds_by (size e) us (Ok a) (Ok more) xs at_u at_us deeper so is =
      let h : a ∷ more ≡ xs = cc in rw (← h) (deeper more refl)

  later : (u : Use Source) (us : List (Use Source)) → SoundUses (u ∷ us) → SoundUses us
  later (plain e) us so = so.1
  later (size e) us so = so

  sounds_of : (us : List (Use Source)) → SoundUses us → (xs : List Operand)
      → in_order (map (used (sources env)) us) ≡ Ok xs → Sounds env s us xs
  sounds_of [] so [] is = tt
  sounds_of [] so (x ∷ xs) is = absurd (search rules)
  sounds_of (u ∷ us) so xs is =
      sounds_by u us (used (sources env) u) (in_order (map (used (sources env)) us)) xs refl refl
      (λ ys at. sounds_of us (later u us so) ys at) so is

  size_uses : (es : List Source) → SoundUses (map size es)
  size_uses [] = tt
  size_uses (e ∷ es) = size_uses es

  cast_uses : (es : List Source) (e : Source) → ((x : Operand) → means env e ≡ Ok x → SoundOperand env s x)
      → SoundUses (map size es ++ plain e ∷ [])
  cast_uses [] e sound = (sound, tt)
  cast_uses (z ∷ zs) e sound = cast_uses zs e sound

  module _ (calls : List ℕ → Bool) (agree : Agrees env s) (there : AreDefined calls env s) where
    -- a node whose operands are lawful
    node_sound : (kind : SourceKind) (layer : ExprKind-F SourceKind Source Typename) (line : ℕ) (x : Operand)
        → out-ExprKind kind ≡ layer → Asked env s layer → SoundUses (operands (sources env) layer)
        → kind_means env kind line ≡ Ok x → SoundOperand env s x
    node_sound kind layer line x at_kind asked so is =
        let e : Source = record { kind = kind; line = line } in
        let at_layer : kind_means env kind line ≡ node (sources env) env line layer =
        is_walked env e ∙ ap (node (sources env) env line) at_kind in
        let w = walk_of (in_order (map (used (sources env)) (operands (sources env) layer))) line
        (channel_line (sources env) line layer) (row (sources env) env line layer) x (sym at_layer ∙ is) in
        row_sound env s agree line layer w.found x asked (sounds_of (operands (sources env) layer) so w.found w.walked) w.granted

    -- what the induction shows of the kind of an expression, and of an expression
    abbrev KindIsSound : SourceKind → Type 0
    KindIsSound kind = fits calls kind ≡ true → (line : ℕ) (x : Operand) → kind_means env kind line ≡ Ok x
        → SoundOperand env s x

    abbrev IsSound : Source → Type 0
    IsSound e = KindIsSound e.kind

    abbrev fit : Source → Bool
    fit e = fits calls e.kind

    abbrev fitting_of : Source → Fitting
    fitting_of e = fitting calls e.kind

    -- what is called by its name is defined
    call_defined : (name : Option (List ℕ)) (place : ℕ) → IsNameOf env name place → called_fits calls name ≡ true
        → IsDefined env s place
    call_defined None place named fine = absurd named
    call_defined (Some name) place named fine = there name place named fine

    use_of : (e : Source) → IsSound e → fit e ≡ true → (x : Operand) → means env e ≡ Ok x → SoundOperand env s x
    use_of e sound fine x is = sound fine e.line x is

    module _ {A B C : Type 0} (kind_of : A → SourceKind) (source : B → Source) (name : C → Typename)
        (deeper : (b : B) → IsSound (source b)) where
      abbrev AllFit : List B → Type 0
      AllFit bs = all_fit (map fitting_of (map source bs)) ≡ true

      argument_uses : (bs : List B) → AllFit bs → SoundUses (map plain (map source bs))
      argument_uses [] fine = tt
      argument_uses (b ∷ bs) fine =
          let w = both_hold (fit (source b)) (all_fit (map fitting_of (map source bs))) fine in
          (use_of (source b) (deeper b) w.0, argument_uses bs w.1)

      abbrev one_use : (b : B) → fit (source b) ≡ true → SoundUses (plain (source b) ∷ [])
      one_use b fine = (use_of (source b) (deeper b) fine, tt)

      abbrev two_uses : (b c : B) → (fit (source b) && fit (source c)) ≡ true
          → SoundUses (plain (source b) ∷ plain (source c) ∷ [])
      two_uses b c fine =
          let w = both_hold (fit (source b)) (fit (source c)) fine in
          (use_of (source b) (deeper b) w.0, one_use c w.1)

      abbrev three_uses : (b c d : B) → (fit (source b) && (fit (source c) && fit (source d))) ≡ true
          → SoundUses (plain (source b) ∷ plain (source c) ∷ plain (source d) ∷ [])
      three_uses b c d fine =
          let w = both_hold (fit (source b)) (fit (source c) && fit (source d)) fine in
          (use_of (source b) (deeper b) w.0, two_uses c d w.1)

      abbrev call_uses : (b : B) (bs : List B) → (fit (source b) && all_fit (map fitting_of (map source bs))) ≡ true
          → SoundUses (plain (source b) ∷ map plain (map source bs))
      call_uses b bs fine =
          let w = both_hold (fit (source b)) (all_fit (map fitting_of (map source bs))) fine in
          (use_of (source b) (deeper b) w.0, argument_uses bs w.1)

      -- the layer of a kind, whose parts are lawful
      layer_sound : (x : ExprKind-F SourceKind Source Typename) (y : ExprKind-F A B C)
          → map-ExprKind A B C SourceKind Source Typename kind_of source name y ≡ x → KindIsSound (roll-ExprKind x)
      layer_sound x (ExprKind-F.Name n) is fine line r at =
          let h : roll-ExprKind x ≡ k.Name n = search (rules, the_lemmas) in
          let o : out-ExprKind (roll-ExprKind x) ≡ ExprKind-F.Name n = search (rules, the_lemmas) in
          let f : fits calls (k.Name n) ≡ true = rw h at fine in
          node_sound (roll-ExprKind x) (ExprKind-F.Name n) line r o tt tt at
      layer_sound x (ExprKind-F.Number n d u) is fine line r at =
          let h : roll-ExprKind x ≡ k.Number n d u = search (rules, the_lemmas) in
          let o : out-ExprKind (roll-ExprKind x) ≡ ExprKind-F.Number n d u = search (rules, the_lemmas) in
          let f : fits calls (k.Number n d u) ≡ true = rw h at fine in
          let g : nat_le n 65535 ≡ true = search (rules, the_lemmas) in
          node_sound (roll-ExprKind x) (ExprKind-F.Number n d u) line r o g tt at
      layer_sound x (ExprKind-F.Char c) is fine line r at =
          let h : roll-ExprKind x ≡ k.Char c = search (rules, the_lemmas) in
          let o : out-ExprKind (roll-ExprKind x) ≡ ExprKind-F.Char c = search (rules, the_lemmas) in
          let f : fits calls (k.Char c) ≡ true = rw h at fine in
          let g : nat_le c 255 ≡ true = search (rules, the_lemmas) in
          node_sound (roll-ExprKind x) (ExprKind-F.Char c) line r o g tt at
      layer_sound x (ExprKind-F.Paren b) is fine line r at =
          let h : roll-ExprKind x ≡ k.Paren (source b) = search (rules, the_lemmas) in
          let o : out-ExprKind (roll-ExprKind x) ≡ ExprKind-F.Paren (source b) = search (rules, the_lemmas) in
          let f : fits calls (k.Paren (source b)) ≡ true = rw h at fine in
          let g : fit (source b) ≡ true = search (rules, the_lemmas) in
          node_sound (roll-ExprKind x) (ExprKind-F.Paren (source b)) line r o tt (one_use b g) at
      layer_sound x (ExprKind-F.Index b c) is fine line r at =
          let h : roll-ExprKind x ≡ k.Index (source b) (source c) = search (rules, the_lemmas) in
          let o : out-ExprKind (roll-ExprKind x) ≡ ExprKind-F.Index (source b) (source c) = search (rules, the_lemmas) in
          let f : fits calls (k.Index (source b) (source c)) ≡ true = rw h at fine in
          let g : (fit (source b) && fit (source c)) ≡ true = search (rules, the_lemmas) in
          node_sound (roll-ExprKind x) (ExprKind-F.Index (source b) (source c)) line r o tt (two_uses b c g) at
      layer_sound x (ExprKind-F.Call b bs) is fine line r at =
          let h : roll-ExprKind x ≡ k.Call (source b) (map source bs) = search (rules, the_lemmas) in
          let o : out-ExprKind (roll-ExprKind x) ≡ ExprKind-F.Call (source b) (map source bs) = search (rules, the_lemmas) in
          let f : fits calls (k.Call (source b) (map source bs)) ≡ true = rw h at fine in
          let g : (called_fits calls (fitting_of (source b)).name
          && (fit (source b) && all_fit (map fitting_of (map source bs)))) ≡ true = search (rules, the_lemmas) in
          let w = both_hold (called_fits calls (fitting_of (source b)).name)
          (fit (source b) && all_fit (map fitting_of (map source bs))) g in
          node_sound (roll-ExprKind x) (ExprKind-F.Call (source b) (map source bs)) line r o
          (λ place named. call_defined (fitting_of (source b)).name place (function_named calls env (source b) place named) w.0)
          (call_uses b bs w.1) at
      layer_sound x (ExprKind-F.Member b n) is fine line r at =
          let h : roll-ExprKind x ≡ k.Member (source b) n = search (rules, the_lemmas) in
          let o : out-ExprKind (roll-ExprKind x) ≡ ExprKind-F.Member (source b) n = search (rules, the_lemmas) in
          let f : fits calls (k.Member (source b) n) ≡ true = rw h at fine in
          let g : fit (source b) ≡ true = search (rules, the_lemmas) in
          node_sound (roll-ExprKind x) (ExprKind-F.Member (source b) n) line r o tt (one_use b g) at
      layer_sound x (ExprKind-F.Arrow b n) is fine line r at =
          let h : roll-ExprKind x ≡ k.Arrow (source b) n = search (rules, the_lemmas) in
          let o : out-ExprKind (roll-ExprKind x) ≡ ExprKind-F.Arrow (source b) n = search (rules, the_lemmas) in
          let f : fits calls (k.Arrow (source b) n) ≡ true = rw h at fine in
          let g : fit (source b) ≡ true = search (rules, the_lemmas) in
          node_sound (roll-ExprKind x) (ExprKind-F.Arrow (source b) n) line r o tt (one_use b g) at
      layer_sound x (ExprKind-F.PostIncrement b) is fine line r at =
          let h : roll-ExprKind x ≡ k.PostIncrement (source b) = search (rules, the_lemmas) in
          let o : out-ExprKind (roll-ExprKind x) ≡ ExprKind-F.PostIncrement (source b) = search (rules, the_lemmas) in
          let f : fits calls (k.PostIncrement (source b)) ≡ true = rw h at fine in
          let g : fit (source b) ≡ true = search (rules, the_lemmas) in
          node_sound (roll-ExprKind x) (ExprKind-F.PostIncrement (source b)) line r o tt (one_use b g) at
      layer_sound x (ExprKind-F.PostDecrement b) is fine line r at =
          let h : roll-ExprKind x ≡ k.PostDecrement (source b) = search (rules, the_lemmas) in
          let o : out-ExprKind (roll-ExprKind x) ≡ ExprKind-F.PostDecrement (source b) = search (rules, the_lemmas) in
          let f : fits calls (k.PostDecrement (source b)) ≡ true = rw h at fine in
          let g : fit (source b) ≡ true = search (rules, the_lemmas) in
          node_sound (roll-ExprKind x) (ExprKind-F.PostDecrement (source b)) line r o tt (one_use b g) at
      layer_sound x (ExprKind-F.PreIncrement b) is fine line r at =
          let h : roll-ExprKind x ≡ k.PreIncrement (source b) = search (rules, the_lemmas) in
          let o : out-ExprKind (roll-ExprKind x) ≡ ExprKind-F.PreIncrement (source b) = search (rules, the_lemmas) in
          let f : fits calls (k.PreIncrement (source b)) ≡ true = rw h at fine in
          let g : fit (source b) ≡ true = search (rules, the_lemmas) in
          node_sound (roll-ExprKind x) (ExprKind-F.PreIncrement (source b)) line r o tt (one_use b g) at
      layer_sound x (ExprKind-F.PreDecrement b) is fine line r at =
          let h : roll-ExprKind x ≡ k.PreDecrement (source b) = search (rules, the_lemmas) in
          let o : out-ExprKind (roll-ExprKind x) ≡ ExprKind-F.PreDecrement (source b) = search (rules, the_lemmas) in
          let f : fits calls (k.PreDecrement (source b)) ≡ true = rw h at fine in
          let g : fit (source b) ≡ true = search (rules, the_lemmas) in
          node_sound (roll-ExprKind x) (ExprKind-F.PreDecrement (source b)) line r o tt (one_use b g) at
      layer_sound x (ExprKind-F.AddressOf b) is fine line r at =
          let h : roll-ExprKind x ≡ k.AddressOf (source b) = search (rules, the_lemmas) in
          let o : out-ExprKind (roll-ExprKind x) ≡ ExprKind-F.AddressOf (source b) = search (rules, the_lemmas) in
          let f : fits calls (k.AddressOf (source b)) ≡ true = rw h at fine in
          let g : fit (source b) ≡ true = search (rules, the_lemmas) in
          node_sound (roll-ExprKind x) (ExprKind-F.AddressOf (source b)) line r o tt (one_use b g) at
      layer_sound x (ExprKind-F.Deref b) is fine line r at =
          let h : roll-ExprKind x ≡ k.Deref (source b) = search (rules, the_lemmas) in
          let o : out-ExprKind (roll-ExprKind x) ≡ ExprKind-F.Deref (source b) = search (rules, the_lemmas) in
          let f : fits calls (k.Deref (source b)) ≡ true = rw h at fine in
          let g : fit (source b) ≡ true = search (rules, the_lemmas) in
          node_sound (roll-ExprKind x) (ExprKind-F.Deref (source b)) line r o tt (one_use b g) at
      layer_sound x (ExprKind-F.Unary op b) is fine line r at =
          let h : roll-ExprKind x ≡ k.Unary op (source b) = search (rules, the_lemmas) in
          let o : out-ExprKind (roll-ExprKind x) ≡ ExprKind-F.Unary op (source b) = search (rules, the_lemmas) in
          let f : fits calls (k.Unary op (source b)) ≡ true = rw h at fine in
          let g : fit (source b) ≡ true = search (rules, the_lemmas) in
          node_sound (roll-ExprKind x) (ExprKind-F.Unary op (source b)) line r o tt (one_use b g) at
      layer_sound x (ExprKind-F.SizeofExpr b) is fine line r at =
          let h : roll-ExprKind x ≡ k.SizeofExpr (source b) = search (rules, the_lemmas) in
          let o : out-ExprKind (roll-ExprKind x) ≡ ExprKind-F.SizeofExpr (source b) = search (rules, the_lemmas) in
          let f : fits calls (k.SizeofExpr (source b)) ≡ true = rw h at fine in
          let g : fit (source b) ≡ true = search (rules, the_lemmas) in
          node_sound (roll-ExprKind x) (ExprKind-F.SizeofExpr (source b)) line r o tt (one_use b g) at
      layer_sound x (ExprKind-F.SizeofType t) is fine line r at =
          let h : roll-ExprKind x ≡ k.SizeofType (name t) = search (rules, the_lemmas) in
          let o : out-ExprKind (roll-ExprKind x) ≡ ExprKind-F.SizeofType (name t) = search (rules, the_lemmas) in
          node_sound (roll-ExprKind x) (ExprKind-F.SizeofType (name t)) line r o tt (size_uses (sizes_of (name t))) at
      layer_sound x (ExprKind-F.Cast t b) is fine line r at =
          let h : roll-ExprKind x ≡ k.Cast (name t) (source b) = search (rules, the_lemmas) in
          let o : out-ExprKind (roll-ExprKind x) ≡ ExprKind-F.Cast (name t) (source b) = search (rules, the_lemmas) in
          let f : fits calls (k.Cast (name t) (source b)) ≡ true = rw h at fine in
          let g : fit (source b) ≡ true = search (rules, the_lemmas) in
          node_sound (roll-ExprKind x) (ExprKind-F.Cast (name t) (source b)) line r o tt
          (cast_uses (sizes_of (name t)) (source b) (use_of (source b) (deeper b) g)) at
      layer_sound x (ExprKind-F.Binary b op c) is fine line r at =
          let h : roll-ExprKind x ≡ k.Binary (source b) op (source c) = search (rules, the_lemmas) in
          let o : out-ExprKind (roll-ExprKind x) ≡ ExprKind-F.Binary (source b) op (source c) = search (rules, the_lemmas) in
          let f : fits calls (k.Binary (source b) op (source c)) ≡ true = rw h at fine in
          let g : (fit (source b) && fit (source c)) ≡ true = search (rules, the_lemmas) in
          node_sound (roll-ExprKind x) (ExprKind-F.Binary (source b) op (source c)) line r o tt (two_uses b c g) at
      layer_sound x (ExprKind-F.And b c) is fine line r at =
          let h : roll-ExprKind x ≡ k.And (source b) (source c) = search (rules, the_lemmas) in
          let o : out-ExprKind (roll-ExprKind x) ≡ ExprKind-F.And (source b) (source c) = search (rules, the_lemmas) in
          let f : fits calls (k.And (source b) (source c)) ≡ true = rw h at fine in
          let g : (fit (source b) && fit (source c)) ≡ true = search (rules, the_lemmas) in
          node_sound (roll-ExprKind x) (ExprKind-F.And (source b) (source c)) line r o tt (two_uses b c g) at
      layer_sound x (ExprKind-F.Or b c) is fine line r at =
          let h : roll-ExprKind x ≡ k.Or (source b) (source c) = search (rules, the_lemmas) in
          let o : out-ExprKind (roll-ExprKind x) ≡ ExprKind-F.Or (source b) (source c) = search (rules, the_lemmas) in
          let f : fits calls (k.Or (source b) (source c)) ≡ true = rw h at fine in
          let g : (fit (source b) && fit (source c)) ≡ true = search (rules, the_lemmas) in
          node_sound (roll-ExprKind x) (ExprKind-F.Or (source b) (source c)) line r o tt (two_uses b c g) at
      layer_sound x (ExprKind-F.Conditional b c d) is fine line r at =
          let h : roll-ExprKind x ≡ k.Conditional (source b) (source c) (source d) = search (rules, the_lemmas) in
          let o : out-ExprKind (roll-ExprKind x) ≡ ExprKind-F.Conditional (source b) (source c) (source d) =
          search (rules, the_lemmas) in
          let f : fits calls (k.Conditional (source b) (source c) (source d)) ≡ true = rw h at fine in
          let g : (fit (source b) && (fit (source c) && fit (source d))) ≡ true = search (rules, the_lemmas) in
          node_sound (roll-ExprKind x) (ExprKind-F.Conditional (source b) (source c) (source d)) line r o tt
          (three_uses b c d g) at
      layer_sound x (ExprKind-F.Assign b op c) is fine line r at =
          let h : roll-ExprKind x ≡ k.Assign (source b) op (source c) = search (rules, the_lemmas) in
          let o : out-ExprKind (roll-ExprKind x) ≡ ExprKind-F.Assign (source b) op (source c) = search (rules, the_lemmas) in
          let f : fits calls (k.Assign (source b) op (source c)) ≡ true = rw h at fine in
          let g : (fit (source b) && fit (source c)) ≡ true = search (rules, the_lemmas) in
          node_sound (roll-ExprKind x) (ExprKind-F.Assign (source b) op (source c)) line r o tt (two_uses b c g) at
      layer_sound x (ExprKind-F.Comma b c) is fine line r at =
          let h : roll-ExprKind x ≡ k.Comma (source b) (source c) = search (rules, the_lemmas) in
          let o : out-ExprKind (roll-ExprKind x) ≡ ExprKind-F.Comma (source b) (source c) = search (rules, the_lemmas) in
          let f : fits calls (k.Comma (source b) (source c)) ≡ true = rw h at fine in
          let g : (fit (source b) && fit (source c)) ≡ true = search (rules, the_lemmas) in
          node_sound (roll-ExprKind x) (ExprKind-F.Comma (source b) (source c)) line r o tt (two_uses b c g) at

      source_sound : (x : Expr-F SourceKind Source Typename) (y : Expr-F A B C)
          → map-Expr A B C SourceKind Source Typename kind_of source name y ≡ x
          → ((a : A) → KindIsSound (kind_of a)) → IsSound (roll-Expr x)
      source_sound x y is kinds =
          let h : (roll-Expr x).kind ≡ kind_of y.kind = search (rules, expr_lemmas) in
          rw h (kinds y.kind)

pub kind_sound : (env : Env) (s : Scope) (calls : List ℕ → Bool) (agree : Agrees env s) (there : AreDefined calls env s)
    (kind : SourceKind) → KindIsSound env s calls agree there kind
kind_sound env s calls agree there =
    ind-ExprKind (KindIsSound env s calls agree there) (IsSound env s calls agree there) (λ t. Unit {0})
    (λ x y is. layer_sound env s calls agree there (λ e. e.0) (λ e. e.0) (λ e. e.0) (λ e. e.1) x y is)
    (λ x y is. source_sound env s calls agree there (λ e. e.0) (λ e. e.0) (λ e. e.0) (λ e. e.1) x y is (λ e. e.1))
    (λ x y is. tt)

pub means_lawful : (calls : List ℕ → Bool) (env : Env) (s : Scope) (e : Source) (x : Operand)
    → MeansIsLawful calls env s e x
means_lawful calls env s e x agree there fine is = kind_sound env s calls agree there e.kind fine e.line x is
