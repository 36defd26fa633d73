-- The wide operands of forms.
use Rattle.std.proofs.Common.{◌≡◌, ℕ, zero, suc, Bool, true, false, List, [], ◌∷◌, ◌++◌, map, drop, Option, Some, None, refl, sym, ap, ap₂, ◌∙◌}
use Rattle.std.specs.Prelude.{slice_get, slice_index_or}
use Rattle.insn_set.specs.Widths.{is_wide_slot, is_wide_item, compares_wide, unary_reads_wide, binary_is_wide, second_is_wide}
use Rattle.insn_set.specs.declared.ops.InvokeKind.{InvokeKind}
use Rattle.insn_set.specs.declared.ops.InvokeKind.TheVariants as call
use Rattle.insn_set.specs.declared.form.Insn.{Insn}
use Rattle.insn_set.specs.declared.form.Insn.TheVariants as insn
use Rattle.program_model.specs.Texts.{string_text, text_or_none, type_text, letter_of, first_unit}
use Rattle.program_model.specs.Texts.{is_wide as is_wide_letter}
use Rattle.program_model.specs.declared.pools.MethodName.{MethodName}
use Rattle.program_model.specs.declared.pools.Proto.{Proto}
use Rattle.program_model.specs.declared.program.Program.{Program}
use Rattle.dalvik_defs.specs.Names.{Text, is_wide}
use Rattle.dalvik_defs.specs.Naming.{text_at, type_at, signature_at, method_at, form_of}
use Rattle.dalvik_defs.specs.declared.names.Signature.{Signature}
use Rattle.dalvik_defs.specs.declared.names.MethodKey.{MethodKey}
use Rattle.insn_regs.specs.Wides.{is_wide_type, parameters_in, widths_in, widths_of}
use Rattle.insn_regs.specs.Wides as wide
use Rattle.pass_defs.specs.Packed as named
use Rattle.bodies_kept.specs.OperandBridged.{AreWidesByNumber}

-- ---- types

entry_same : (xs : List Text) (n : ℕ) → (elim (slice_get xs n) [ Some t ↦ t | None ↦ [] ]) ≡ slice_index_or xs n []
entry_same [] n = refl
entry_same (x ∷ xs) zero = refl
entry_same (x ∷ xs) (suc n) = entry_same xs n

text_same : (p : Program) (n : ℕ) → text_at p n ≡ string_text p n
text_same p n = entry_same p.strings n

type_same : (p : Program) (kind : ℕ) → type_at p kind ≡ type_text p kind
unfolding type_text
type_same p kind = by (slice_get p.types kind)
  where
    by : (o : Option ℕ) → (elim o [ Some t ↦ text_at p t | None ↦ [] ]) ≡ text_or_none p o
    by None = refl
    by (Some t) = text_same p t

letter_same : (t : Text) → is_wide t ≡ is_wide_letter (first_unit t)
letter_same [] = refl
letter_same (u ∷ us) = refl

pub wide_same : (p : Program) (kind : ℕ) → is_wide (type_at p kind) ≡ is_wide_type p kind
unfolding letter_of
wide_same p kind = ap is_wide (type_same p kind) ∙ letter_same (type_text p kind)

-- ---- arguments

arguments_same : (p : Program) (kinds rs : List ℕ) → named.wide_arguments (map (type_at p) kinds) rs ≡ wide.wide_arguments (map (is_wide_type p) kinds) rs
arguments_same p [] rs = refl
arguments_same p (k ∷ ks) [] = refl
arguments_same p (k ∷ ks) (r ∷ rs) = by (is_wide (type_at p k)) (is_wide_type p k) (wide_same p k) (arguments_same p ks (drop 1 rs)) (arguments_same p ks rs)
  where
    by : (u v : Bool) → u ≡ v → named.wide_arguments (map (type_at p) ks) (drop 1 rs) ≡ wide.wide_arguments (map (is_wide_type p) ks) (drop 1 rs) → named.wide_arguments (map (type_at p) ks) rs ≡ wide.wide_arguments (map (is_wide_type p) ks) rs
        → ◌≡◌ {A = List ℕ} (elim u [ true ↦ r ∷ named.wide_arguments (map (type_at p) ks) (drop 1 rs) | false ↦ named.wide_arguments (map (type_at p) ks) rs ]) (elim v [ true ↦ r ∷ wide.wide_arguments (map (is_wide_type p) ks) (drop 1 rs) | false ↦ wide.wide_arguments (map (is_wide_type p) ks) rs ])
    by true true e a b = ap (λ l. r ∷ l) a
    by true false e a b = absurd (cc)
    by false true e a b = absurd (cc)
    by false false e a b = b

abbrev signature_for : Program → Option Proto → Signature
signature_for p o = elim o [ Some q ↦ record { parameters = map (type_at p) q.parameters; result = type_at p q.result } | None ↦ record { parameters = []; result = [] } ]

parameters_for : (p : Program) (o : Option Proto) → (signature_for p o).parameters ≡ map (type_at p) (parameters_in o)
parameters_for p None = refl
parameters_for p (Some q) = refl

parameters_same : (p : Program) (n : ℕ) → (signature_at p n).parameters ≡ map (type_at p) (parameters_in (slice_get p.protos n))
parameters_same p n = parameters_for p (slice_get p.protos n)

abbrev key_for : Program → Option MethodName → MethodKey
key_for p o = elim o [
  | Some m ↦ record { class = type_at p m.class; name = text_at p m.name; signature = signature_at p m.proto }
  | None ↦ record { class = []; name = []; signature = record { parameters = []; result = [] } }
]

abbrev widths_for : Program → Option MethodName → List Bool
widths_for p o = elim o [ Some m ↦ widths_in p m | None ↦ [] ]

row_same : (p : Program) (ms : List MethodName) (n : ℕ) → slice_index_or (map (widths_in p) ms) n [] ≡ widths_for p (slice_get ms n)
row_same p [] n = refl
row_same p (m ∷ ms) zero = refl
row_same p (m ∷ ms) (suc n) = row_same p ms n

nothing_wide : (rs : List ℕ) → named.wide_arguments ([] ∷ []) rs ≡ []
nothing_wide [] = refl
nothing_wide (r ∷ rs) = refl

passed_for : (p : Program) (kind : InvokeKind) (o : Option MethodName) (rs : List ℕ) → named.wide_passed kind (key_for p o) rs ≡ wide.wide_passed kind (widths_for p o) rs
passed_for p call.Static None rs = refl
passed_for p kind None rs = nothing_wide rs
passed_for p call.Static (Some m) rs = ap (λ ts. named.wide_arguments ts rs) (parameters_same p m.proto) ∙ arguments_same p (parameters_in (slice_get p.protos m.proto)) rs
passed_for p kind (Some m) rs = ap (λ ts. named.wide_arguments (type_at p m.class ∷ ts) rs) (parameters_same p m.proto) ∙ arguments_same p (m.class ∷ parameters_in (slice_get p.protos m.proto)) rs

passed_same : (p : Program) (kind : InvokeKind) (n : ℕ) (rs : List ℕ) → named.wide_passed kind (method_at p n) rs ≡ wide.wide_passed kind (slice_index_or (widths_of p) n []) rs
passed_same p kind n rs = passed_for p kind (slice_get p.methods n) rs ∙ ap (λ ws. wide.wide_passed kind ws rs) (sym (row_same p p.methods n))

-- ---- operands

pub first_same : (v : Bool) (r : ℕ) → named.first_if v r ≡ wide.first_if v r
first_same true r = refl
first_same false r = refl

both_same : (u v : Bool) (a b : ℕ) → named.first_if u a ++ named.first_if v b ≡ wide.first_if u a ++ wide.first_if v b
both_same u v a b = ap₂ (λ xs ys. xs ++ ys) (first_same u a) (first_same v b)

pub wides_by_number : AreWidesByNumber
wides_by_number p (insn.Move slot to from) = first_same (is_wide_slot slot) from
wides_by_number p (insn.Return slot from) = first_same (is_wide_slot slot) from
wides_by_number p (insn.Cmp op to a b) = both_same (compares_wide op) (compares_wide op) a b
wides_by_number p (insn.ArrayPut item from array index) = first_same (is_wide_item item) from
wides_by_number p (insn.InstancePut item from on field) = first_same (is_wide_item item) from
wides_by_number p (insn.StaticPut item from field) = first_same (is_wide_item item) from
wides_by_number p (insn.Invoke kind method args) = passed_same p kind method args
wides_by_number p (insn.Unary op to from) = first_same (unary_reads_wide op) from
wides_by_number p (insn.Binary op to a b) = both_same (binary_is_wide op) (second_is_wide op) a b
wides_by_number p insn.Nop = refl
wides_by_number p i = refl
