use Rattle.std.proofs.Common.{◌≡◌, ◌∙◌, [], ◌∷◌, get_or, inl, inr}
use Rattle.std.proofs.lemmas.Result.{IfOk-weaker}
use Rattle.core_layout.specs.Laid.{across}
use Rattle.core_tree.specs.Data.{names, struct_names}
use Rattle.core_layout.proofs.Naming.{at_first, in_array, in_void, in_num, in_pointer, in_struct}
use Rattle.core_layout.proofs.names.type_names.Goals as goal

pub loop-inner-preserved : goal.loop-inner-preserved
loop-inner-preserved c =
    in_array (struct_names c.args._structs.now) c.loop-inner.inner.now c.get-inner.result.now c.in-Array.count
    c.loop-inner.prefix
    c.in_ok-prefix-in-Array.prefix (names c.args._structs.now c.args.ty.now) (rw c.get-inner.ensures c.in-Array.is)
    c.in_ok-prefix-in-Array.ensures c.loop-inner.invariant

pub returns-in-Void : goal.returns-in-Void
returns-in-Void c =
    c.new-in-Void.ensures
    ∙ in_void (struct_names c.args._structs.now) c.loop-inner.inner.now c.loop-inner.prefix
    (names c.args._structs.now c.args.ty.now)
    c.in-Void.is c.loop-inner.invariant

pub loop-inner-init : goal.loop-inner-init
loop-inner-init c =
    at_first (record { befores = c.in_ok-one_empty.field-0; text = c.new.result }) (names c.args._structs.now c.args.ty.now)
    c.in_ok-one_empty.ensures c.new.ensures

pub returns-in-Struct : goal.returns-in-Struct
returns-in-Struct c =
    let known = struct_names c.args._structs.now in
    let whole = names c.args._structs.now c.args.ty.now in
    IfOk-weaker _ (λ made. made ≡ across c.as_slice.result.now (get_or known c.in-Struct.tag [])) (λ made. made ≡ whole)
    (λ made m. in_struct known c.loop-inner.inner.now c.in-Struct.tag c.loop-inner.prefix c.as_slice.result.now made whole
    c.in-Struct.is
    (c.as_slice.ensures ∙ c.in_ok-befores-in-Struct.ensures) m c.loop-inner.invariant) c.with_struct.ensures

pub returns-in-Num : goal.returns-in-Num
returns-in-Num c =
    let known = struct_names c.args._structs.now in
    let whole = names c.args._structs.now c.args.ty.now in
    let p = c.loop-inner.prefix in
    let t = c.loop-inner.inner.now in
    let it = c.loop-inner.invariant in
    IfOk-weaker _ (λ made. made ≡ across p.befores (p.text ∷ [])) (λ made. made ≡ whole)
    (λ made m. elim c.in-Num.is
    [ inl w ↦ in_num known t w.0 p made whole w.1 m it | inr w ↦ in_pointer known t w.0 w.1 p made whole w.2 m it ])
    c.texts-in-Num.ensures
