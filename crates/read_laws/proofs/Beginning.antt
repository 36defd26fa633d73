-- Fields with their annotations and_both first values, as they are read.
use Rattle.std.proofs.Common.{◌≡◌, ◌<◌, ℕ, zero, suc, Bool, true, false, cond, not, List, [], ◌∷◌, ◌++◌, map, length, Option, Some, None, Ok, refl, sym, ap, subst, ◌∙◌, arith}
use Rattle.std.specs.Prelude.{slice_get}
use Rattle.std.specs.List.{list_all}
use Rattle.std.proofs.lemmas.Bool.{ltb-true}
use Rattle.lemmas.proofs.Bools.{and_both, and_parts, not_false}
use Rattle.lemmas.proofs.Lists.{all_more}
use Rattle.dex_base.specs.Reading.{raise}
use Rattle.program_model.specs.MemberRules.{is_static, field_letter, first_value_fits}
use Rattle.program_model.specs.ValueRules.{marks_fit, names_fit, value_fits, layer_fits}
use Rattle.program_model.specs.declared.limits.Counted.TheVariants.{Items}
use Rattle.program_model.specs.declared.program.Field.{Field}
use Rattle.program_model.specs.declared.program.Program.{Program}
use Rattle.program_model.specs.declared.value.EncValue.{EncValue, EncValue-F, out-EncValue}
use Rattle.program_model.specs.declared.value.EncValue.TheOpen as layer
use Rattle.program_model.specs.declared.value.Element.{Element}
use Rattle.program_model.specs.declared.value.Mark.{Mark}
use Rattle.program_model.specs.declared.value.Note.{Note}
use Rattle.dex_pools.specs.Items.{spend}
use Rattle.dex_pools.specs.Value.{whole_value_at}
use Rattle.dex_read.specs.Classes.{begun_at}
use Rattle.dex_read.specs.ClassData.{agree, field_suits}
use Rattle.dex_read.specs.Directory.{with_marks, named_at, mark_field}
use Rattle.dex_read.specs.Faults.{of_pool}
use Rattle.dex_read.specs.FirstValues.{layer_is_of, is_of, layer_is_zero, first_of, with_first, takes, give_first, firsts_at}
use Rattle.dex_read.specs.Steps.{change_at}
use Rattle.dex_read.specs.Tables.{sizes_in}
use Rattle.dex_read.specs.Word.{number_at}
use Rattle.dex_read.specs.declared.class_data.Listed.{Listed}
use Rattle.dex_read.specs.declared.class_data.Members.{Members}
use Rattle.read_laws.proofs.FieldReading.{FieldsAre, AreListed, own_field, change_keeps, change_all, reads_steps}
use Rattle.read_laws.proofs.MarkReading.{reads_set, reads_value}
use Rattle.read_laws.proofs.MemberOrder.{Own, own}
use Rattle.read_laws.proofs.Readings.{Reads, anything, weaker, done, when, either, next, lifted}

-- ---- annotations

abbrev State : Type 0
State = List Field × (ℕ × ℕ)

marked_fields : (p : Program) (xs : List Own) (fields : List Field) (marks : List Mark) (place : ℕ) → FieldsAre p xs fields → marks_fit p marks ≡ true → FieldsAre p xs (change_at (with_marks marks) place fields)
marked_fields p xs fields marks place f h = record {
  own = change_keeps own_field (with_marks marks) (λ x. refl) place fields ∙ f.own;
  marks = change_all (λ f. marks_fit p f.marks) (with_marks marks) place fields (λ x e t. h) f.marks;
  firsts = change_all (λ f. first_value_fits p f.flags f.name f.first) (with_marks marks) place fields (λ x e t. t) f.firsts;
}

pub reads_mark_field : (bytes : List ℕ) (p : Program) (class : ℕ) (listed : List Listed) (at : ℕ) (xs : List Own) (i : ℕ) (s : State) → FieldsAre p xs s.0
    → Reads (λ r. FieldsAre p xs r.0) (mark_field bytes p class listed at i s)
unfolding mark_field
reads_mark_field bytes p class listed at xs i s h = weaker (mark_field bytes p class listed at i s)
    (next (anything (named_at bytes class (sizes_in p).fields listed at i s.1.0)) (λ named _. next (reads_set bytes p named.1.1 s.1.1) (λ marks _.
    done (change_at (with_marks marks.0) named.0 s.0, (named.1.0, marks.1)))))
    (λ y q. subst (λ (r : State). FieldsAre p xs r.0) (sym q.2.2) (marked_fields p xs s.0 q.2.0.0 q.0.0 h q.2.1))

-- ---- first values

layer_begins : (inner : EncValue → Bool) (p : Program) (letter : ℕ) (x : EncValue-F EncValue Element Note) → layer_is_of letter x ≡ true → layer_is_zero x ≡ false → names_fit inner p x ≡ true
    → layer_fits p letter x ≡ true
layer_begins inner p letter (layer.Byte n) h z k = and_both _ _ h (ap not z)
layer_begins inner p letter (layer.Short n) h z k = and_both _ _ h (ap not z)
layer_begins inner p letter (layer.Char n) h z k = and_both _ _ h (ap not z)
layer_begins inner p letter (layer.Int n) h z k = and_both _ _ h (ap not z)
layer_begins inner p letter (layer.Long n) h z k = and_both _ _ h (ap not z)
layer_begins inner p letter (layer.Float n) h z k = and_both _ _ h (ap not z)
layer_begins inner p letter (layer.Double n) h z k = and_both _ _ h (ap not z)
layer_begins inner p letter (layer.Bool b) h z k = and_both _ _ h (not_false b z)
layer_begins inner p letter (layer.Str n) h z k = and_both _ _ h k
layer_begins inner p letter (layer.Class n) h z k = and_both _ _ h k
layer_begins inner p letter layer.Null h z k = absurd cc
layer_begins inner p letter (layer.Field n) h z k = absurd cc
layer_begins inner p letter (layer.Method n) h z k = absurd cc
layer_begins inner p letter (layer.Enum n) h z k = absurd cc
layer_begins inner p letter (layer.Array n) h z k = absurd cc
layer_begins inner p letter (layer.Annotation n) h z k = absurd cc

by_zero : (p : Program) (f : Field) (v : EncValue) (b : Bool) → layer_is_zero (out-EncValue v) ≡ b → is_static f.flags ≡ true → is_of (field_letter p (slice_get p.fields f.name)) v ≡ true
    → value_fits 64 p v ≡ true → first_value_fits p f.flags f.name (cond b None (Some v)) ≡ true
by_zero p f v true z s h k = refl
by_zero p f v false z s h k = and_both _ _ s (layer_begins (value_fits 63 p) p (field_letter p (slice_get p.fields f.name)) (out-EncValue v) h z k)

pub begins : (p : Program) (f : Field) (v : EncValue) → is_static f.flags ≡ true → is_of (field_letter p (slice_get p.fields f.name)) v ≡ true → value_fits 64 p v ≡ true
    → first_value_fits p f.flags f.name (first_of v) ≡ true
begins p f v s h k = by_zero p f v (layer_is_zero (out-EncValue v)) refl s h k

-- the first of these are static
abbrev BeginStatic : ℕ → List Own → Type 0
BeginStatic count xs = (i : ℕ) (x : Own) → i < count → slice_get xs i ≡ Some x → is_static x.1 ≡ true

abbrev or_else : Option Own → Own → Own
or_else None d = d
or_else (Some x) d = x

begin_static : (statics others : List Listed) → list_all (λ e. agree (is_static e.flags) true) statics ≡ true → BeginStatic (length statics) (map own (statics ++ others))
begin_static [] others h i x lt e = absurd (omega (arith, lt))
begin_static (s ∷ ss) others h zero x lt e =
    let is : own s ≡ x = ap (λ o. or_else o (own s)) e in
    subst (λ (y : Own). is_static y.1 ≡ true) is (agreed (is_static s.flags) (and_parts _ _ h).0)
  where
    agreed : (a : Bool) → agree a true ≡ true → a ≡ true
    agreed true h = refl
    agreed false h = absurd cc
begin_static (s ∷ ss) others h (suc i) x lt e = begin_static ss others (and_parts _ _ h).1 i x (omega (arith, lt)) e

abbrev own_of : Option Field → Option Own
own_of None = None
own_of (Some f) = Some (own_field f)

get_own : (fields : List Field) (i : ℕ) (f : Field) → slice_get fields i ≡ Some f → slice_get (map own_field fields) i ≡ Some (own_field f)
get_own [] i f e = absurd cc
get_own (g ∷ gs) zero f e = ap (λ (o : Option Field). own_of o) e
get_own (g ∷ gs) (suc i) f e = get_own gs i f e

begun_fields : (p : Program) (xs : List Own) (count : ℕ) (fields : List Field) (v : EncValue) (i : ℕ) → BeginStatic count xs → FieldsAre p xs fields → i < count
    → takes p v (slice_get fields i) ≡ true → value_fits 64 p v ≡ true → FieldsAre p xs (change_at (with_first v) i fields)
begun_fields p xs count fields v i are f lt t k = record {
  own = change_keeps own_field (with_first v) (λ x. refl) i fields ∙ f.own;
  marks = change_all (λ f. marks_fit p f.marks) (with_first v) i fields (λ x e t. t) f.marks;
  firsts = change_all (λ f. first_value_fits p f.flags f.name f.first) (with_first v) i fields
      (λ g e _. begins p g v
      (are i (own_field g) lt (subst (λ (ys : List Own). slice_get ys i ≡ Some (own_field g)) f.own (get_own fields i g e)))
      (subst (λ o. takes p v o ≡ true) e t) k) f.firsts;
}

reads_give : (bytes : List ℕ) (p : Program) (count : ℕ) (xs : List Own) → BeginStatic count xs → (i : ℕ) (s : State) → FieldsAre p xs s.0 → Reads (λ r. FieldsAre p xs r.0) (give_first bytes p count i s)
unfolding give_first whole_value_at
reads_give bytes p count xs are i s h = weaker (give_first bytes p count i s)
    (next (lifted of_pool (reads_value 64 bytes p s.1)) (λ v _. when _ (done (change_at (with_first v.0) i s.0, v.1))))
    (λ y q. let t = and_parts _ _ q.2.0 in
    subst (λ (r : State). FieldsAre p xs r.0) (sym q.2.1) (begun_fields p xs count s.0 q.0.0 i are h (ltb-true i count t.0) t.1 q.1))

reads_firsts : (bytes : List ℕ) (p : Program) (at count : ℕ) (xs : List Own) (fields : List Field) (left : ℕ) → BeginStatic count xs → FieldsAre p xs fields
    → Reads (λ r. FieldsAre p xs r.0) (firsts_at bytes p at count fields left)
unfolding firsts_at
reads_firsts bytes p at count xs fields left are h = weaker (firsts_at bytes p at count fields left)
    (next (anything (number_at bytes at)) (λ n _. next (anything (raise of_pool (spend Items n.0 left))) (λ behind _.
    next (reads_steps (λ (s : State). FieldsAre p xs s.0) (give_first bytes p count) (reads_give bytes p count xs are) 0 n.0 (fields, (n.1, behind)) h) (λ given _.
    done (given.0, given.1.1)))))
    (λ y q. subst (λ (r : List Field × ℕ). FieldsAre p xs r.0) (sym q.2.2.2) q.2.2.1)

pub reads_begun : {class : ℕ} (bytes : List ℕ) (p : Program) (offset : ℕ) (listed : Members) (fields : List Field) (left : ℕ) → AreListed p class listed → FieldsAre p (map own (listed.statics ++ listed.instances)) fields
    → Reads (λ r. FieldsAre p (map own (listed.statics ++ listed.instances)) r.0) (begun_at bytes p offset (length listed.statics) fields left)
unfolding begun_at
reads_begun {class = class} bytes p offset listed fields left a h =
    let xs = map own (listed.statics ++ listed.instances) in
    let are : BeginStatic (length listed.statics) xs = begin_static listed.statics listed.instances
    (all_more (field_suits p class true []) (λ e. agree (is_static e.flags) true) (λ e t. (and_parts _ _ (and_parts _ _ t).1).0) listed.statics a.statics.suit) in
    either
    (λ _. weaker (Ok (fields, left)) (done (fields, left)) (λ y e. subst (λ (r : List Field × ℕ). FieldsAre p xs r.0) (sym e) h))
    (λ _. reads_firsts bytes p offset (length listed.statics) xs fields left are h)
