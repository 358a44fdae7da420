-- Functions that break no rule are lawful: their parameters and results, their locals, and what stands in their braces.
use Rattle.std.proofs.Common.{append_assoc, append-nil, ◌≡◌, ℕ, suc, ◌+◌, ◌≤◌, Bool, true, false, ◌||◌, cond, List, [], ◌∷◌, ◌++◌, drop, length, is_some, Option, Some, None, Result, Ok, Err, refl, sym, ap, subst, ◌∙◌, rules, arith}
use Rattle.base16.specs.declared.integer.IntType.{IntType}
use Rattle.base16.specs.declared.integer.IntType.TheVariants.{Char, Int, UInt}
use Rattle.c_tree.specs.declared.expression.Expr.{Expr as Source}
use Rattle.c_tree.specs.declared.qualified.Spec.{Spec}
use Rattle.c_tree.specs.declared.qualified.Qual.{Qual}
use Rattle.c_tree.specs.declared.qualified.Base.{Base}
use Rattle.c_tree.specs.declared.qualified.Base.TheVariants as base
use Rattle.c_tree.specs.declared.statements.Compound.{Compound}
use Rattle.c_tree.specs.declared.unit.Param.{Param}
use Rattle.c_tree.specs.declared.unit.Function.{Function as SourceFunction}
use Rattle.core_tree.specs.declared.types.Ty.{Ty, out-Ty, the_lemmas as type_lemmas}
use Rattle.core_tree.specs.declared.types.Ty.TheVariants as ty
use Rattle.core_tree.specs.declared.types.Ty.TheOpen.{Ty-F}
use Rattle.core_tree.specs.declared.statements.Stmt.{Stmt}
use Rattle.core_tree.specs.declared.program.Core.{Core}
use Rattle.core_tree.specs.declared.program.Function.{Function}
use Rattle.core_tree.specs.Lawful.{is_array, array_layer}
use Rattle.core_tree.specs.LawfulCore.{Every, IsObject, is_object, result_layer, text_of}
use Rattle.core_tree.specs.Rules.{is_scalar, scalar_layer}
use Rattle.c_typing.specs.declared.environment.Env.{Env}
use Rattle.c_typing.specs.declared.fault.Rule.{Rule}
use Rattle.c_typing.specs.declared.fault.Rule.TheVariants.{Twice, WrongType, Incomplete}
use Rattle.c_typing.specs.Outcome.{Outcome, ◌>>=◌, at}
use Rattle.c_typing.specs.Scopes.{is_sized, tag_of, tags, count_of_defining}
use Rattle.c_typing.specs.TypeNames.{signed_int, Qualified, pointed, has_const, qualified, base_type, struct_type}
use Rattle.c_typing_laws.proofs.Same.{both_hold}
use Rattle.c_checking.specs.declared.draft.Parameter.{Parameter}
use Rattle.c_checking.specs.Walk.{inner, declare_local}
use Rattle.c_checking.specs.Declarators.{base_of, sizes, in_arrays}
use Rattle.c_checking.specs.Functions.{first_size, adjusted, parameter_of, parameter, enter_parameter, parameters, listed, enter_parameters, types_of, Head, head, is_struct, struct_layer, have_struct, result_layer as head_result, are_sized, is_complete_head, differs, earlier, stands_twice, function_rule, entering, function_of}
use Rattle.c_checking_laws.specs.Standing.{Begins, Stands, Declared, IsLocal}
use Rattle.c_checking_laws.specs.Accepted.{HeadIsLawful, FunctionIsLawful}
use Rattle.c_checking_laws.specs.Fitting.{each_is, bounds_fit, param_fits, is_named}
use Rattle.c_checking_laws.proofs.Lists.{length_begins}
use Rattle.c_checking_laws.proofs.Sizes.{object_stays}
use Rattle.c_checking_laws.proofs.Locals.{local_declared}
use Rattle.c_checking_laws.proofs.Texts.{compound_is}

-- ---- types that are no arrays

abbrev IsPlain : Ty → Type 0
IsPlain t = is_array t ≡ false

plain-Pointer : (to : Ty) (r : Bool) → IsPlain (ty.Pointer to r)
plain-Pointer to r = search (rules, type_lemmas)

plain_pointed : (t : Qualified) (stars : List (List Qual)) → IsPlain t.ty → IsPlain (pointed t stars).ty
plain_pointed t [] plain = plain
plain_pointed t (quals ∷ stars) plain =
    plain_pointed (record { ty = ty.Pointer t.ty t.readonly; readonly = has_const quals }) stars (plain-Pointer t.ty t.readonly)

plain_struct : (tag : Option ℕ) (t : Ty) → struct_type tag ≡ Ok t → IsPlain t
plain_struct None t is = absurd (search rules)
plain_struct (Some n) t is = let e : ty.Struct n ≡ t = cc in rw (← e) (search (rules, type_lemmas))

plain_num : (i : IntType) (t : Ty) → ◌≡◌ {A = Result Ty Rule} (Ok (ty.Num i)) (Ok t) → IsPlain t
plain_num i t is = let e : ty.Num i ≡ t = cc in rw (← e) (search (rules, type_lemmas))

plain_base : (env : Env) (b : Base) (t : Ty) → base_type env b ≡ Ok t → IsPlain t
unfolding base_type
plain_base env base.Void t is = let e : ty.Void ≡ t = cc in rw (← e) (search (rules, type_lemmas))
plain_base env base.Char t is = plain_num Char t is
plain_base env base.UnsignedChar t is = plain_num Char t is
plain_base env (base.Struct tag) t is = plain_struct (tag_of env tag) t is
plain_base env (base.Int s) t is = plain_num Int t is
plain_base env base.Signed t is = plain_num Int t is
plain_base env (base.Unsigned w) t is = plain_num UInt t is
plain_base env (base.Short s w) t is = plain_num (signed_int s) t is

plain_qualified : (sp : Spec) (r : Result Ty Rule) (q : Qualified) → ((t : Ty) → r ≡ Ok t → IsPlain t)
    → qualified sp [] r ≡ Ok q → IsPlain q.ty
plain_qualified sp (Err rule) q plain is = absurd (search rules)
plain_qualified sp (Ok t) q plain is =
    let e : record { ty = t; readonly = has_const sp.before || has_const sp.after } ≡ q = cc in
    rw (← e) (plain t refl)

plain_of_base : (env : Env) (sp : Spec) (line : ℕ) (q : Qualified) → base_of env sp ≡ Ok q → IsPlain q.ty
plain_of_base env sp line q is = plain_qualified sp (base_type env sp.base) q (plain_base env sp.base) is

at_is : {A : Type 0} (line : ℕ) (r : Result A Rule) (a : A) → at line r ≡ Ok a → r ≡ Ok a
at_is line (Ok b) a is = let e : b ≡ a = cc in rw e refl
at_is line (Err rule) a is = absurd (search rules)

-- ---- outcomes one after another

record Then {A B : Type 0} (o : Outcome A) (next : A → Outcome B) (b : B) : Type 0 where
  first : A
  is_first : o ≡ Ok first
  is_next : next first ≡ Ok b

then_is : {A B : Type 0} (o : Outcome A) (next : A → Outcome B) (b : B) → (o >>= next) ≡ Ok b → Then o next b
then_is (Err f) next b is = absurd (search rules)
then_is (Ok a) next b is = record { first = a; is_first = refl; is_next = is }

-- ---- parameters

no_sizes : (env : Env) (bounds : List Source) (counts : List ℕ) → bounds_fit None bounds ≡ true
    → sizes env bounds ≡ Ok counts → counts ≡ []
no_sizes env [] counts fine is = let e : [] ≡ counts = cc in sym e
no_sizes env (e ∷ es) counts fine is = absurd (search rules)

plain_adjusted : (env : Env) (first : Option (Option Source)) (bounds : List Source) (t : Qualified) (counts : List ℕ)
    → bounds_fit first bounds ≡ true → sizes env (first_size first ++ bounds) ≡ Ok counts → IsPlain t.ty
    → IsPlain (adjusted first t counts).ty
plain_adjusted env None bounds t counts fine is plain =
    let e : counts ≡ [] = no_sizes env bounds counts fine is in
    subst (λ cs. IsPlain (in_arrays t cs).ty) (sym e) plain
plain_adjusted env (Some None) bounds t counts fine is plain = plain-Pointer _ _
plain_adjusted env (Some (Some e)) bounds t counts fine is plain = plain-Pointer _ _

record OneParameter (p : Param) (x : Parameter) : Type 0 where
  plain : IsPlain x.ty
  named : x.name ≡ p.name

one_parameter : (env : Env) (line : ℕ) (p : Param) (x : Parameter) → param_fits p ≡ true → parameter env line p ≡ Ok x
    → OneParameter p x
one_parameter env line p x fine is =
    let u = then_is (at line (base_of env p.spec)) _ x is in
    let v = then_is (sizes env (first_size p.first_bound ++ p.bounds)) _ x u.is_next in
    let q : base_of env p.spec ≡ Ok u.first = at_is line (base_of env p.spec) u.first u.is_first in
    let e : parameter_of p.name (adjusted p.first_bound (pointed u.first p.stars) v.first) ≡ x = cc in
    rw (← e) (record {
      plain = plain_adjusted env p.first_bound p.bounds (pointed u.first p.stars) v.first fine v.is_first
          (plain_pointed u.first p.stars (plain_of_base env p.spec line u.first q));
      named = refl;
    })

-- each parameter of a head is plain, and has the name that is written
abbrev Parametered : List Param → List Parameter → Type 0
Parametered [] [] = Unit {0}
Parametered [] (x ∷ xs) = ⊥
Parametered (p ∷ ps) [] = ⊥
Parametered (p ∷ ps) (x ∷ xs) = OneParameter p x × Parametered ps xs

all_parameters : (env : Env) (line : ℕ) (ps : List Param) (xs : List Parameter) → each_is param_fits ps ≡ true
    → parameters env line ps ≡ Ok xs → Parametered ps xs
all_parameters env line [] xs fine is = let e : [] ≡ xs = cc in rw (← e) tt
all_parameters env line (p ∷ ps) xs fine is =
    let w = both_hold (param_fits p) (each_is param_fits ps) fine in
    let u = then_is (parameter env line p) _ xs is in
    let v = then_is (parameters (enter_parameter u.first env) line ps) _ xs u.is_next in
    let e : u.first ∷ v.first ≡ xs = cc in
    rw (← e) (
      one_parameter env line p u.first w.0 u.is_first,
      all_parameters (enter_parameter u.first env) line ps v.first w.1 v.is_first,
    )

abbrev AllPlain : List Ty → Type 0
AllPlain ts = Every IsPlain ts

plain_parameters : (ps : List Param) (xs : List Parameter) → Parametered ps xs → AllPlain (types_of xs)
plain_parameters [] [] p = tt
plain_parameters [] (x ∷ xs) p = absurd p
plain_parameters (q ∷ ps) [] p = absurd p
plain_parameters (q ∷ ps) (x ∷ xs) p = (p.0.plain, plain_parameters ps xs p.1)

-- ---- heads

record HeadParts (env : Env) (f : SourceFunction) (h : Head) : Type 0 where
  parameters : Parametered (listed f.params) h.params
  plain : IsPlain h.result

head_parts : (env : Env) (f : SourceFunction) (h : Head) → each_is param_fits (listed f.params) ≡ true
    → head env f ≡ Ok h → HeadParts env f h
head_parts env f h fine is =
    let u = then_is (at f.line (base_of env f.spec)) _ h is in
    let v = then_is (parameters (inner env) f.line (listed f.params)) _ h u.is_next in
    let q : base_of env f.spec ≡ Ok u.first = at_is f.line (base_of env f.spec) u.first u.is_first in
    let e : record { result = (pointed u.first f.stars).ty; params = v.first } ≡ h = cc in
    rw (← e) (record {
      parameters = all_parameters (inner env) f.line (listed f.params) v.first fine v.is_first;
      plain = plain_pointed u.first f.stars (plain_of_base env f.spec f.line u.first q);
    })

neither : (p q : Bool) → (p || q) ≡ false → (p ≡ false) × (q ≡ false)
neither true q is = absurd (search rules)
neither false q is = (refl, is)

-- the rules that a function keeps
pub record Kept (env : Env) (f : SourceFunction) (h : Head) : Type 0 where
  pub once : stands_twice env f h ≡ false
  pub no_struct : have_struct (h.result ∷ types_of h.params) ≡ false
  pub same_head : differs (earlier env f.name) h ≡ false
  pub complete : is_complete_head env h ≡ true

kept_by : (env : Env) (f : SourceFunction) (h : Head) (p q r s : Bool) → stands_twice env f h ≡ p
    → have_struct (h.result ∷ types_of h.params) ≡ q → differs (earlier env f.name) h ≡ r → is_complete_head env h ≡ s
    → cond p (Some Twice) (cond (q || r) (Some WrongType) (cond s None (Some Incomplete))) ≡ None → Kept env f h
kept_by env f h true q r s at_p at_q at_r at_s is = absurd cc
kept_by env f h false true r s at_p at_q at_r at_s is = absurd cc
kept_by env f h false false true s at_p at_q at_r at_s is = absurd cc
kept_by env f h false false false true at_p at_q at_r at_s is =
    record { once = at_p; no_struct = at_q; same_head = at_r; complete = at_s }
kept_by env f h false false false false at_p at_q at_r at_s is = absurd cc

pub kept : (env : Env) (f : SourceFunction) (h : Head) → function_rule env f h ≡ None → Kept env f h
kept env f h is =
    kept_by env f h (stands_twice env f h) (have_struct (h.result ∷ types_of h.params)) (differs (earlier env f.name) h)
    (is_complete_head env h) refl refl refl refl is

-- what an object is that is no array and no struct
scalar_by : (all below : ℕ) (t : Ty) (l : Ty-F Ty) → out-Ty t ≡ l → IsPlain t → is_struct t ≡ false
    → is_object all t below ≡ true → is_scalar t ≡ true
unfolding is_scalar
scalar_by all below t Ty-F.Void at_l plain other o =
    let h : t ≡ ty.Void = search (rules, type_lemmas) in
    let g : is_object all ty.Void below ≡ true = rw h at o in absurd (search (rules, type_lemmas))
scalar_by all below t (Ty-F.Num i) at_l plain other o = ap scalar_layer at_l
scalar_by all below t (Ty-F.Pointer to r) at_l plain other o = ap scalar_layer at_l
scalar_by all below t (Ty-F.Array of n) at_l plain other o =
    let g : array_layer (Ty-F.Array of n) ≡ false = sym (ap array_layer at_l) ∙ plain in absurd (search rules)
scalar_by all below t (Ty-F.Struct tag) at_l plain other o =
    let g : struct_layer (Ty-F.Struct tag) ≡ false = sym (ap struct_layer at_l) ∙ other in absurd (search rules)

module _ (core : Core) (env : Env) (b : Begins env.structs core.structs) (alone : env.defining ≡ None) where
  tags_alone : tags env ≡ length env.structs
  tags_alone = ap (λ (o : Option (List ℕ)). length env.structs + count_of_defining o) alone ∙ (omega arith)

  object_of : (t : Ty) → is_sized env t ≡ true → IsObject core t
  unfolding is_sized
  object_of t sized =
      let n : tags env ≤ length core.structs =
      let l = length_begins env.structs core.structs b in let m = tags_alone in omega arith in
      object_stays t (tags env) (length core.structs) (length env.structs) (length core.structs) n
      (length_begins env.structs core.structs b) sized

  scalar_of : (t : Ty) → IsPlain t → is_struct t ≡ false → is_sized env t ≡ true → is_scalar t ≡ true
  unfolding is_sized
  scalar_of t plain other sized = scalar_by (tags env) (length env.structs) t (out-Ty t) refl plain other sized

  pub scalar_params : (ts : List Ty) → AllPlain ts → have_struct ts ≡ false → are_sized env ts ≡ true
      → Every (λ t. (is_scalar t ≡ true) × IsObject core t) ts
  scalar_params [] plain other sized = tt
  scalar_params (t ∷ ts) plain other sized =
      let v = neither (is_struct t) (have_struct ts) other in
      let w = both_hold (is_sized env t) (are_sized env ts) sized in
      ((scalar_of t plain.0 v.0 w.0, object_of t w.0), scalar_params ts plain.1 v.1 w.1)

  result_by : (t : Ty) (l : Ty-F Ty) → out-Ty t ≡ l → IsPlain t → is_struct t ≡ false → head_result env t l ≡ true
      → result_layer core t l
  result_by t Ty-F.Void at_l plain other sized = tt
  result_by t (Ty-F.Num i) at_l plain other sized = (scalar_of t plain other sized, object_of t sized)
  result_by t (Ty-F.Pointer to r) at_l plain other sized = (scalar_of t plain other sized, object_of t sized)
  result_by t (Ty-F.Array of n) at_l plain other sized = (scalar_of t plain other sized, object_of t sized)
  result_by t (Ty-F.Struct tag) at_l plain other sized = (scalar_of t plain other sized, object_of t sized)

pub head_is : (core : Core) (env : Env) (f : SourceFunction) (h : Head) → HeadIsLawful core env f h
head_is core env f h b alone fine is rule =
    let p = head_parts env f h fine is in
    let r = kept env f h rule in
    let v = neither (is_struct h.result) (have_struct (types_of h.params)) r.no_struct in
    let w = both_hold (head_result env h.result (out-Ty h.result)) (are_sized env (types_of h.params)) r.complete in
    record {
      params = scalar_params core env b alone (types_of h.params) (plain_parameters (listed f.params) h.params p.parameters)
          v.1 w.1;
      result = result_by core env b alone h.result (out-Ty h.result) refl p.plain v.0 w.0;
    }

-- ---- bodies

-- each parameter has a name
abbrev Named : List Parameter → Type 0
Named ps = Every (λ (p : Parameter). is_some p.name ≡ true) ps

named_of : (ps : List Param) (xs : List Parameter) → each_is is_named ps ≡ true → Parametered ps xs → Named xs
named_of [] [] fine p = tt
named_of [] (x ∷ xs) fine p = absurd p
named_of (q ∷ ps) [] fine p = absurd p
named_of (q ∷ ps) (x ∷ xs) fine p =
    let w = both_hold (is_named q) (each_is is_named ps) fine in
    (ap (λ (n : Option (List ℕ)). is_some n) p.0.named ∙ w.0, named_of ps xs w.1 p.1)

-- what entering parameters makes
record Entered (calls : List ℕ → Bool) (core : Core) (ps : List Parameter) (env behind : Env) : Type 0 where
  declared : Declared calls core behind
  locals : behind.locals ≡ env.locals ++ types_of ps
  result : behind.result ≡ env.result

enter_by : (calls : List ℕ → Bool) (core : Core) (p : Parameter) (ps : List Parameter) (name : Option (List ℕ)) (env : Env)
    → p.name ≡ name → is_some name ≡ true → Declared calls core env
    → ((mid : Env) → Declared calls core mid → Entered calls core ps mid (enter_parameters ps mid))
    → Entered calls core (p ∷ ps) env (enter_parameters (p ∷ ps) env)
enter_by calls core p ps None env at_name some d deeper = absurd (search rules)
enter_by calls core p ps (Some name) env at_name some d deeper =
    let mid : Env = declare_local name p.ty p.readonly env in
    let e : enter_parameter p env ≡ mid = rw at_name refl in
    let m = deeper mid (local_declared calls core env name p.ty p.readonly d) in
    subst (λ (z : Env). Entered calls core (p ∷ ps) env (enter_parameters ps z)) (sym e) (record {
      declared = m.declared;
      locals = m.locals ∙ append_assoc env.locals (p.ty ∷ []) (types_of ps);
      result = m.result;
    })

enter_all : (calls : List ℕ → Bool) (core : Core) (ps : List Parameter) (env : Env) → Named ps → Declared calls core env
    → Entered calls core ps env (enter_parameters ps env)
enter_all calls core [] env named d = record { declared = d; locals = sym (append-nil env.locals); result = refl }
enter_all calls core (p ∷ ps) env named d =
    enter_by calls core p ps p.name env refl named.0 d (λ mid e. enter_all calls core ps mid named.1 e)

-- at file scope no local is declared, so the names stand there too where a function begins
pub inside_declared : (calls : List ℕ → Bool) (core : Core) (env : Env) (result : Ty) → env.locals ≡ []
    → Declared calls core env → Declared calls core (record (inner env) { locals = []; result = result })
inside_declared calls core env result none d = record {
  structs = d.structs;
  names = subst (λ ls. Every (Stands calls core env.functions ls) env.names) none d.names;
  outside = d.outside;
  alone = d.alone;
}

drop_more : {A : Type 0} (xs ys : List A) → drop (length xs) (xs ++ ys) ≡ ys
drop_more [] ys = refl
drop_more (x ∷ xs) ys = drop_more xs ys

same_lengths : (ps : List Parameter) → length (types_of ps) ≡ length ps
same_lengths [] = refl
same_lengths (p ∷ ps) = ap (λ n. suc n) (same_lengths ps)

-- a function whose head and body break no rule is lawful
pub function_lawful : (calls : List ℕ → Bool) (core : Core) (env : Env) (f : SourceFunction) (h : Head) (body : Compound)
    (all : List Stmt) (behind : Env) → FunctionIsLawful calls core env f h body all behind
function_lawful calls core env f h body all behind d none hd named fine is =
    let first : Env = record (inner env) { locals = []; result = h.result } in
    let e = enter_all calls core h.params first named (inside_declared calls core env h.result none d) in
    let l = compound_is calls core body false false fine (entering h env) behind all e.declared is in
    let o = l.1 in
    let ts : List Ty = types_of h.params in
    let locals : behind.locals ≡ ts ++ o.locals.0 = o.locals.1 ∙ ap (λ ls. ls ++ o.locals.0) e.locals in
    let rest : drop (length h.params) behind.locals ≡ o.locals.0 =
    ap (λ n. drop n behind.locals) (sym (same_lengths h.params)) ∙ ap (λ ls. drop (length ts) ls) locals
    ∙ drop_more ts o.locals.0 in
    let g : Function = function_of f h all behind.locals in
    record {
      params = hd.params;
      locals = subst (λ ls. Every (IsLocal core) ls) (sym rest) o.locals.2;
      result = hd.result;
      body = l.2 (text_of core false g)
          (record {
            program = refl;
            inside = refl;
            early = refl;
            result = sym e.result;
            params = lengths_at_most ts (entering h env).locals (sym e.locals);
          })
          ([], ap (λ ls. ts ++ ls) rest ∙ sym locals ∙ sym (append-nil behind.locals))
          (λ p. p, λ p. p);
    }
  where
    lengths_at_most : (xs ys : List Ty) → xs ≡ ys → length xs ≤ length ys
    lengths_at_most xs ys same = let e : length xs ≡ length ys = ap (λ ls. length ls) same in omega arith

-- the parameters of a function with a body have names
pub head_named : (env : Env) (f : SourceFunction) (h : Head) → each_is param_fits (listed f.params) ≡ true
    → each_is is_named (listed f.params) ≡ true → head env f ≡ Ok h
    → Every (λ (p : Parameter). is_some p.name ≡ true) h.params
head_named env f h fine named is =
    named_of (listed f.params) h.params named (head_parts env f h fine is).parameters
