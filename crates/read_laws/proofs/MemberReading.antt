-- The members of a class that is read fit the rules.
use Rattle.std.proofs.Common.{◌≡◌, ℕ, ◌+◌, ◌*◌, true, List, [], ◌++◌, map, Ok, sym, subst}
use Rattle.lemmas.proofs.Bools.{and_both}
use Rattle.program_model.specs.MemberRules.{fields_fit, methods_fit, class_fits}
use Rattle.program_model.specs.ValueRules.{marks_fit}
use Rattle.program_model.specs.declared.program.Class.{Class}
use Rattle.program_model.specs.declared.program.Field.{Field}
use Rattle.program_model.specs.declared.program.Method.{Method}
use Rattle.program_model.specs.declared.program.Program.{Program}
use Rattle.dex_read.specs.Classes.{field_with, marked_at, class_at}
use Rattle.dex_read.specs.Directory.{Marked, marked, mark_field, mark_method, mark_parameters, directory_at}
use Rattle.dex_read.specs.Header.{need_at}
use Rattle.dex_read.specs.Word.{word_at}
use Rattle.dex_read.specs.declared.class_data.Members.{Members}
use Rattle.dex_read.specs.declared.members.Budget.{Budget}
use Rattle.read_laws.proofs.Beginning.{reads_mark_field, reads_begun}
use Rattle.read_laws.proofs.Bounds.{AreBytes}
use Rattle.read_laws.proofs.ClassReading.{IsRead, class_read, types_fit, source_is}
use Rattle.read_laws.proofs.FieldReading.{AreListed, FieldsAre, no_marks, own_fields, plain_fields, fields_that_are, reads_listed, reads_steps}
use Rattle.read_laws.proofs.MarkReading.{reads_set}
use Rattle.read_laws.proofs.MemberOrder.{Own, own}
use Rattle.read_laws.proofs.MethodReading.{MethodsAre, reads_mark_method, reads_mark_parameters, reads_methods_of, methods_that_are}
use Rattle.read_laws.proofs.Readings.{Reads, anything, weaker, done, either, next}

record IsMarked (bytes : List ℕ) (p : Program) (xs ys : List Own) (m : Marked) : Type 0 where
  marks : marks_fit p m.marks ≡ true
  fields : FieldsAre p xs m.fields
  methods : MethodsAre bytes p ys m.methods

reads_directory : (bytes : List ℕ) (p : Program) (class : ℕ) (listed : Members) (at : ℕ) (xs ys : List Own) (fields : List Field) (methods : List Method) (left : ℕ) → FieldsAre p xs fields → MethodsAre bytes p ys methods
    → Reads (IsMarked bytes p xs ys) (directory_at bytes p class listed at fields methods left)
unfolding directory_at
reads_directory bytes p class listed at xs ys fields methods left f m = weaker (directory_at bytes p class listed at fields methods left)
    (next (anything (need_at bytes at 16)) (λ begins _.
    next (anything (word_at bytes at)) (λ set _.
    next (anything (word_at bytes (at + 4))) (λ field_count _.
    next (anything (word_at bytes (at + 8))) (λ method_count _.
    next (anything (word_at bytes (at + 12))) (λ parameter_count _.
    next (anything (need_at bytes at (16 + 8 * field_count + 8 * method_count + 8 * parameter_count))) (λ whole _.
    next (reads_set bytes p set left) (λ marks _.
    next (reads_steps (λ (s : List Field × (ℕ × ℕ)). FieldsAre p xs s.0) (mark_field bytes p class (listed.statics ++ listed.instances) (at + 16))
    (reads_mark_field bytes p class (listed.statics ++ listed.instances) (at + 16) xs) 0 field_count (fields, (0, marks.1)) f) (λ own_fields _.
    next (reads_steps (λ (s : List Method × (ℕ × ℕ)). MethodsAre bytes p ys s.0) (mark_method bytes p class (listed.directs ++ listed.virtuals) (at + 16 + 8 * field_count))
    (reads_mark_method bytes p class (listed.directs ++ listed.virtuals) (at + 16 + 8 * field_count) ys) 0 method_count (methods, (0, own_fields.1.1)) m) (λ own h.
    next (reads_steps (λ (s : List Method × (ℕ × ℕ)). MethodsAre bytes p ys s.0) (mark_parameters bytes p class (listed.directs ++ listed.virtuals) (at + 16 + 8 * field_count + 8 * method_count))
    (reads_mark_parameters bytes p class (listed.directs ++ listed.virtuals) (at + 16 + 8 * field_count + 8 * method_count) ys) 0 parameter_count (own.0, (0, own.1.1)) h) (λ all _.
    done (marked marks.0 own_fields.0 all.0 all.1.1))))))))))))
    (λ y q. let marks = q.2.2.2.2.2.2 in let fields = marks.2 in let methods = fields.2 in let all = methods.2 in
    subst (IsMarked bytes p xs ys) (sym all.2) (record { marks = marks.1; fields = fields.1; methods = all.1 }))

reads_marked : (bytes : List ℕ) (p : Program) (class : ℕ) (listed : Members) (offset : ℕ) (xs ys : List Own) (fields : List Field) (methods : List Method) (left : ℕ) → FieldsAre p xs fields → MethodsAre bytes p ys methods
    → Reads (IsMarked bytes p xs ys) (marked_at bytes p class listed offset fields methods left)
unfolding marked_at
reads_marked bytes p class listed offset xs ys fields methods left f m = either
    (λ _. weaker (Ok (marked [] fields methods left)) (done (marked [] fields methods left)) (λ y e. subst (IsMarked bytes p xs ys) (sym e) (record { marks = no_marks p; fields = f; methods = m })))
    (λ _. reads_directory bytes p class listed offset xs ys fields methods left f m)

record Fit (bytes : List ℕ) (p : Program) (c : Class) : Type 0 where
  marks : marks_fit p c.marks ≡ true
  fields : fields_fit p c.name c.fields ≡ true
  methods : AreBytes bytes → methods_fit p c.name c.methods ≡ true

members_are : (bytes : List ℕ) (p : Program) (at place : ℕ) (left : Budget) (r : Class × Budget) → IsRead bytes p at place left r → Fit bytes p r.0
members_are bytes p at place left r q =
    let l : AreListed p q.def.class q.listed = (reads_listed bytes p (record { place = place; kind = q.def.class }) q.def.data_at).found q.listed q.listed_are in
    let m : MethodsAre bytes p (map own (q.listed.directs ++ q.listed.virtuals)) q.methods.0
    = (reads_methods_of bytes p q.listed (record { items = q.interfaces.1; cells = left.cells }) l).found q.methods q.methods_are in
    let k : IsMarked bytes p (map own (q.listed.statics ++ q.listed.instances)) (map own (q.listed.directs ++ q.listed.virtuals)) q.marked
    = (reads_marked bytes p place q.listed q.def.annotations (map own (q.listed.statics ++ q.listed.instances)) (map own (q.listed.directs ++ q.listed.virtuals)) (map field_with (q.listed.statics ++ q.listed.instances)) q.methods.0 q.methods.1.items
    (plain_fields p (q.listed.statics ++ q.listed.instances)) m).found q.marked q.marked_are in
    let f : FieldsAre p (map own (q.listed.statics ++ q.listed.instances)) q.fields.0
    = (reads_begun bytes p q.def.static_values q.listed q.marked.fields q.marked.left l k.fields).found q.fields q.fields_are in
    subst (Fit bytes p) (sym q.is) (record {
      marks = k.marks;
      fields = fields_that_are p q.def.class (map own (q.listed.statics ++ q.listed.instances)) q.fields.0 (own_fields p q.def.class q.listed l) f;
      methods = λ are. methods_that_are bytes p q.listed q.marked.methods l k.methods are;
    })

pub marks_are : (bytes : List ℕ) (p : Program) (at place : ℕ) (left : Budget) (r : Class × Budget) → class_at bytes p at place left ≡ Ok r → marks_fit p r.0.marks ≡ true
marks_are bytes p at place left r h = (members_are bytes p at place left r ((class_read bytes p at place left).found r h)).marks

pub fields_are : (bytes : List ℕ) (p : Program) (at place : ℕ) (left : Budget) (r : Class × Budget) → class_at bytes p at place left ≡ Ok r → fields_fit p r.0.name r.0.fields ≡ true
fields_are bytes p at place left r h = (members_are bytes p at place left r ((class_read bytes p at place left).found r h)).fields

pub methods_are : (bytes : List ℕ) (p : Program) (at place : ℕ) (left : Budget) (r : Class × Budget) → class_at bytes p at place left ≡ Ok r
    → AreBytes bytes → methods_fit p r.0.name r.0.methods ≡ true
methods_are bytes p at place left r h = (members_are bytes p at place left r ((class_read bytes p at place left).found r h)).methods

pub class_is : (bytes : List ℕ) (p : Program) (at place : ℕ) (left : Budget) (r : Class × Budget) → class_at bytes p at place left ≡ Ok r
    → AreBytes bytes → class_fits p r.0 ≡ true
unfolding class_fits
class_is bytes p at place left r h are =
    let q : IsRead bytes p at place left r = (class_read bytes p at place left).found r h in
    let m : Fit bytes p r.0 = members_are bytes p at place left r q in
    and_both _ _ (and_both _ _ (types_fit bytes p at place left r q) (and_both _ _ (source_is bytes p at place left r q) m.marks)) (and_both _ _ m.fields (m.methods are))
