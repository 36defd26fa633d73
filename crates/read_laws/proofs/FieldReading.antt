-- The members of class data as they are read, and_both fields with their annotations and_both first values.
use Rattle.std.proofs.Common.{◌≡◌, ℕ, zero, suc, Bool, true, false, List, [], ◌∷◌, ◌++◌, map, Some, is_none, Result, Ok, refl, sym, ap, subst, ◌∙◌}
use Rattle.std.specs.Prelude.{slice_get}
use Rattle.std.specs.List.{list_all}
use Rattle.std.proofs.lemmas.List.Folds.{list_all-map, list_all-append}
use Rattle.lemmas.proofs.Bools.{and_both, and_parts}
use Rattle.lemmas.proofs.Lists.{all_more}
use Rattle.program_model.specs.Neighbours.{neighbours}
use Rattle.program_model.specs.Distinct.{own_field_key, all_differ, differ_from}
use Rattle.program_model.specs.MemberRules.{is_static, class_of_field, is_class_number, first_value_fits, field_fits, fields_in_order, fields_fit}
use Rattle.program_model.specs.ValueRules.{marks_fit}
use Rattle.program_model.specs.declared.program.Field.{Field}
use Rattle.program_model.specs.declared.program.Program.{Program}
use Rattle.dex_read.proofs.Rising.{fields_ascend, methods_ascend, none_ascends}
use Rattle.dex_read.specs.Ascending.{Ascends}
use Rattle.dex_read.specs.ClassData.{agree, place_in, field_entry_at, method_entry_at, field_suits, method_suits, field_at, method_at, fields_at, methods_at, members_at}
use Rattle.dex_read.specs.Classes.{field_with, no_members}
use Rattle.dex_read.specs.Classes as classes
use Rattle.dex_read.specs.Steps.{change_at, steps}
use Rattle.dex_read.specs.Tables.{sizes_in}
use Rattle.dex_read.specs.Word.{number_at}
use Rattle.dex_read.specs.declared.class_data.Listed.{Listed}
use Rattle.dex_read.specs.declared.class_data.Members.{Members}
use Rattle.dex_read.specs.declared.members.Owner.{Owner}
use Rattle.read_laws.proofs.ClassReading.{all_of}
use Rattle.read_laws.proofs.MemberOrder.{Own, own, key, grouped, Group, Apart, two_groups, lists_differ, map_neighbours, map_differ}
use Rattle.read_laws.proofs.Readings.{Reads, anything, weaker, done, when, either, next, reads_run}

-- ---- entries

reads_field : (bytes : List ℕ) (p : Program) (owner : Owner) (static : Bool) (earlier : List Listed) (place : ℕ) (s : ℕ × ℕ)
    → Reads (λ r. field_suits p owner.kind static earlier r.0 ≡ true) (field_at bytes p owner static earlier place s)
unfolding field_at
reads_field bytes p owner static earlier place s = weaker (field_at bytes p owner static earlier place s)
    (next (anything (field_entry_at bytes (sizes_in p).fields place s)) (λ e _. when _ (done e)))
    (λ y q. subst (λ (r : Listed × (ℕ × ℕ)). field_suits p owner.kind static earlier r.0 ≡ true) (sym q.2.1) q.2.0)

reads_method : (bytes : List ℕ) (p : Program) (owner : Owner) (direct : Bool) (earlier : List Listed) (place : ℕ) (s : ℕ × ℕ)
    → Reads (λ r. method_suits p owner.kind direct earlier r.0 ≡ true) (method_at bytes p owner direct earlier place s)
unfolding method_at
reads_method bytes p owner direct earlier place s = weaker (method_at bytes p owner direct earlier place s)
    (next (anything (method_entry_at bytes (sizes_in p).methods place s)) (λ e _. when _ (done e)))
    (λ y q. subst (λ (r : Listed × (ℕ × ℕ)). method_suits p owner.kind direct earlier r.0 ≡ true) (sym q.2.1) q.2.0)

-- ---- the four lists

pub record IsList (suits : Listed → Bool) (es : List Listed) : Type 0 where
  pub suit : list_all suits es ≡ true
  pub ascend : Ascends es

reads_fields : (bytes : List ℕ) (p : Program) (owner : Owner) (static : Bool) (earlier : List Listed) (count at : ℕ)
    → Reads (λ r. IsList (field_suits p owner.kind static earlier) r.0) (fields_at bytes p owner static earlier count at)
reads_fields bytes p owner static earlier count at = record {
  found = λ y h. record {
    suit = all_of (field_suits p owner.kind static earlier) (λ i s r. field_suits p owner.kind static earlier r.0 ≡ true) (λ i s r h. h) 0 (at, 0) y.0 y.1
        ((reads_run (λ i s r. field_suits p owner.kind static earlier r.0 ≡ true) (field_at bytes p owner static earlier) (reads_field bytes p owner static earlier) 0 count (at, 0)).found y h);
    ascend = fields_ascend bytes p owner static earlier count at y.0 y.1 h;
  };
}

reads_methods : (bytes : List ℕ) (p : Program) (owner : Owner) (direct : Bool) (earlier : List Listed) (count at : ℕ)
    → Reads (λ r. IsList (method_suits p owner.kind direct earlier) r.0) (methods_at bytes p owner direct earlier count at)
reads_methods bytes p owner direct earlier count at = record {
  found = λ y h. record {
    suit = all_of (method_suits p owner.kind direct earlier) (λ i s r. method_suits p owner.kind direct earlier r.0 ≡ true) (λ i s r h. h) 0 (at, 0) y.0 y.1
        ((reads_run (λ i s r. method_suits p owner.kind direct earlier r.0 ≡ true) (method_at bytes p owner direct earlier) (reads_method bytes p owner direct earlier) 0 count (at, 0)).found y h);
    ascend = methods_ascend bytes p owner direct earlier count at y.0 y.1 h;
  };
}

pub record AreListed (p : Program) (class : ℕ) (m : Members) : Type 0 where
  pub statics : IsList (field_suits p class true []) m.statics
  pub instances : IsList (field_suits p class false m.statics) m.instances
  pub directs : IsList (method_suits p class true []) m.directs
  pub virtuals : IsList (method_suits p class false m.directs) m.virtuals

reads_members : (bytes : List ℕ) (p : Program) (owner : Owner) (at : ℕ) → Reads (AreListed p owner.kind) (members_at bytes p owner at)
unfolding members_at
reads_members bytes p owner at = weaker (members_at bytes p owner at)
    (next (anything (number_at bytes at)) (λ static_count _.
    next (anything (number_at bytes static_count.1)) (λ instance_count _.
    next (anything (number_at bytes instance_count.1)) (λ direct_count _.
    next (anything (number_at bytes direct_count.1)) (λ virtual_count _.
    next (reads_fields bytes p owner true [] static_count.0 virtual_count.1) (λ statics _.
    next (reads_fields bytes p owner false statics.0 instance_count.0 statics.1.0) (λ instances _.
    next (reads_methods bytes p owner true [] direct_count.0 instances.1.0) (λ directs _.
    next (reads_methods bytes p owner false directs.0 virtual_count.0 directs.1.0) (λ virtuals _.
    done (record { statics = statics.0; instances = instances.0; directs = directs.0; virtuals = virtuals.0 }))))))))))
    (λ y q. let statics = q.2.2.2.2 in let instances = statics.2 in let directs = instances.2 in let virtuals = directs.2 in
    subst (AreListed p owner.kind) (sym virtuals.2) (record { statics = statics.1; instances = instances.1; directs = directs.1; virtuals = virtuals.1 }))

pub reads_listed : (bytes : List ℕ) (p : Program) (owner : Owner) (offset : ℕ) → Reads (AreListed p owner.kind) (classes.listed_at bytes p owner offset)
reads_listed bytes p owner offset = either
    (λ _. weaker (Ok no_members) (done no_members) (λ y e. subst (AreListed p owner.kind) (sym e) (record {
      statics = record { suit = refl; ascend = none_ascends };
      instances = record { suit = refl; ascend = none_ascends };
      directs = record { suit = refl; ascend = none_ascends };
      virtuals = record { suit = refl; ascend = none_ascends };
    })))
    (λ _. reads_members bytes p owner offset)

-- ---- what the lists of fields are

abbrev pub of_class : Program → ℕ → Own → Bool
of_class p class x = is_class_number (class_of_field (slice_get p.fields x.0)) class

abbrev pub static_own : Own → Bool
static_own x = is_static x.1

abbrev pub own_field : Field → Own
own_field f = (f.name, f.flags)

-- what is known of the fields of a class by their numbers and_both flags
pub record OwnFields (p : Program) (class : ℕ) (xs : List Own) : Type 0 where
  pub of_the_class : list_all (of_class p class) xs ≡ true
  pub order : list_all (grouped static_own) (neighbours xs) ≡ true
  pub differ : differ_from key [] xs ≡ true

pub own_fields : (p : Program) (class : ℕ) (m : Members) → AreListed p class m → OwnFields p class (map own (m.statics ++ m.instances))
own_fields p class m a =
    let mine : (static : Bool) (earlier es : List Listed) → list_all (field_suits p class static earlier) es ≡ true → list_all (λ e. of_class p class (own e)) es ≡ true
    = λ static earlier es h. all_more (field_suits p class static earlier) (λ e. of_class p class (own e)) (λ e t. (and_parts _ _ t).0) es h in
    let grouping : (static : Bool) (earlier es : List Listed) → list_all (field_suits p class static earlier) es ≡ true → Group static_own static es
    = λ static earlier es h. all_more (field_suits p class static earlier) (λ e. agree (static_own (own e)) static) (λ e t. (and_parts _ _ (and_parts _ _ t).1).0) es h in
    let apart : Apart m.statics m.instances
    = all_more (field_suits p class false m.statics) (λ e. is_none (place_in e.number m.statics)) (λ e t. (and_parts _ _ (and_parts _ _ t).1).1) m.instances a.instances.suit in
    record {
      of_the_class = list_all-map (of_class p class) own (m.statics ++ m.instances) ∙ list_all-append (λ e. of_class p class (own e)) m.statics m.instances
          ∙ and_both _ _ (mine true [] m.statics a.statics.suit) (mine false m.statics m.instances a.instances.suit);
      order = two_groups static_own 0 0 m.statics m.instances (grouping true [] m.statics a.statics.suit) (grouping false m.statics m.instances a.instances.suit) a.statics.ascend.rises a.instances.ascend;
      differ = lists_differ m.statics m.instances a.statics.ascend a.instances.ascend apart;
    }

-- fields that have these numbers and_both flags, and_both whose annotations and_both first values fit
pub record FieldsAre (p : Program) (xs : List Own) (fields : List Field) : Type 0 where
  pub own : map own_field fields ≡ xs
  pub marks : list_all (λ f. marks_fit p f.marks) fields ≡ true
  pub firsts : list_all (λ f. first_value_fits p f.flags f.name f.first) fields ≡ true

each_fits : (p : Program) (class : ℕ) (fields : List Field) → list_all (λ f. of_class p class (own_field f)) fields ≡ true → list_all (λ f. first_value_fits p f.flags f.name f.first) fields ≡ true
    → list_all (λ f. marks_fit p f.marks) fields ≡ true → list_all (field_fits p class) fields ≡ true
unfolding field_fits
each_fits p class [] h g k = refl
each_fits p class (f ∷ fs) h g k = let a = and_parts _ _ h in let b = and_parts _ _ g in let c = and_parts _ _ k in
    and_both _ _ (and_both _ _ a.0 (and_both _ _ b.0 c.0)) (each_fits p class fs a.1 b.1 c.1)

pub fields_that_are : (p : Program) (class : ℕ) (xs : List Own) (fields : List Field) → OwnFields p class xs → FieldsAre p xs fields → fields_fit p class fields ≡ true
unfolding fields_fit
fields_that_are p class xs fields o f =
    let mine : list_all (λ g. of_class p class (own_field g)) fields ≡ true
    = sym (list_all-map (of_class p class) own_field fields) ∙ ap (list_all (of_class p class)) f.own ∙ o.of_the_class in
    let order : list_all fields_in_order (neighbours fields) ≡ true
    = map_neighbours own_field (grouped static_own) fields ∙ ap (λ ys. list_all (grouped static_own) (neighbours ys)) f.own ∙ o.order in
    let differ : all_differ own_field_key fields ≡ true
    = map_differ own_field key [] fields ∙ ap (λ ys. differ_from key [] ys) f.own ∙ o.differ in
    and_both _ _ (each_fits p class fields mine f.firsts f.marks) (and_both _ _ order differ)

-- fields as they are listed
pub no_marks : (p : Program) → marks_fit p [] ≡ true
unfolding marks_fit
no_marks p = refl

pub plain_fields : (p : Program) (es : List Listed) → FieldsAre p (map own es) (map field_with es)
plain_fields p [] = record { own = refl; marks = refl; firsts = refl }
plain_fields p (e ∷ es) = let rest = plain_fields p es in
    record { own = ap (λ ys. own e ∷ ys) rest.own; marks = and_both _ _ (no_marks p) rest.marks; firsts = rest.firsts }

-- ---- one entry changed

pub change_keeps : {X Y : Type 0} (g : X → Y) (change : X → X) → ((x : X) → g (change x) ≡ g x) → (place : ℕ) (xs : List X) → map g (change_at change place xs) ≡ map g xs
change_keeps g change same place [] = refl
change_keeps g change same zero (x ∷ xs) = ap (λ y. y ∷ map g xs) (same x)
change_keeps g change same (suc place) (x ∷ xs) = ap (λ ys. g x ∷ ys) (change_keeps g change same place xs)

pub change_all : {X : Type 0} (t : X → Bool) (change : X → X) (place : ℕ) (xs : List X) → ((x : X) → slice_get xs place ≡ Some x → t x ≡ true → t (change x) ≡ true)
    → list_all t xs ≡ true → list_all t (change_at change place xs) ≡ true
change_all t change place [] to h = refl
change_all t change zero (x ∷ xs) to h = let a = and_parts _ _ h in and_both _ _ (to x refl a.0) a.1
change_all t change (suc place) (x ∷ xs) to h = let a = and_parts _ _ h in and_both _ _ a.0 (change_all t change place xs (λ y e. to y e) a.1)

-- steps that keep something of a state
pub reads_steps : {S F : Type 0} (Is : S → Type 0) (f : ℕ → S → Result S F) → ((i : ℕ) (s : S) → Is s → Reads Is (f i s)) → (from n : ℕ) (s : S) → Is s → Reads Is (steps f from n s)
reads_steps Is f keeps from zero s h = weaker (steps f from zero s) (done s) (λ y e. subst Is (sym e) h)
reads_steps Is f keeps from (suc n) s h = weaker (steps f from (suc n) s)
    (next (keeps from s h) (λ t ht. reads_steps Is f keeps (suc from) n t ht)) (λ y q. q.2)
