-- A class that is read is the one that its class_def spells.
use Rattle.std.proofs.Common.{◌≡◌, ◌<◌, ◌^◌, ℕ, zero, suc, true, false, eqb, List, [], ◌++◌, map, length, Ok, refl, sym, subst, ◌∙◌, arith, true≢false}
use Rattle.std.specs.List.{AllByRecursion}
use Rattle.std.proofs.lemmas.Bool.{eqb-true, eq-eqb}
use Rattle.lemmas.proofs.Bools.{and_parts, not_true}
use Rattle.lemmas.proofs.Lists.{map_long}
use Rattle.program_model.specs.declared.program.Class.{Class}
use Rattle.program_model.specs.declared.program.Field.{Field}
use Rattle.program_model.specs.declared.program.Program.{Program}
use Rattle.dex_defs.specs.ClassData.{IsClassDataOf}
use Rattle.dex_defs.specs.ClassDefs.{none, IsClass}
use Rattle.dex_read.specs.declared.class_data.Members.{Members}
use Rattle.dex_read.specs.declared.class_defs.ClassDef.{ClassDef}
use Rattle.dex_read.specs.declared.members.Budget.{Budget}
use Rattle.dex_read.specs.declared.members.Owner.{Owner}
use Rattle.dex_read.specs.Classes.{field_with, no_members, root_at, class_at}
use Rattle.dex_read.specs.Classes as classes
use Rattle.dex_read.specs.Tables.{sizes_in}
use Rattle.file_laws.specs.Founds.{Founds}
use Rattle.file_laws.proofs.Founding.{weaker, done, when, either}
use Rattle.file_laws.specs.Class.{def_of, IsReadDef}
use Rattle.file_laws.specs.ClassData.{lists_of, FieldSuits, MethodSuits, AreMembers}
use Rattle.file_laws.proofs.ClassData.{founds_members}
use Rattle.file_laws.proofs.Classes.{founds_def, founds_interfaces}
use Rattle.read_laws.proofs.ClassReading.{IsRead, class_read}
use Rattle.spelled_law.proofs.Codes.{IsMade, founds_methods}
use Rattle.spelled_law.proofs.Directories.{IsMarked, founds_marked, all_defined}
use Rattle.spelled_law.proofs.Firsts.{Begun, AreBegun, founds_begun, split}
use Rattle.spelled_law.proofs.Members.{rises_distinct, distinct_append, fields_apart, fields_static, methods_apart, methods_direct, fields_along, own_of, begun_own, none_first, begun_firsts, are_fields, all_static, methods_along, are_methods, all_direct, HasField, IsOwn, HasMethod}
use Rattle.spelled_law.proofs.Turning.{Along, along_beside, along_split, Distinct}

-- ---- class data, or none

pub record AreListed (bytes : List ℕ) (p : Program) (owner : Owner) (offset : ℕ) (m : Members) : Type 0 where
  pub data_is : IsClassDataOf bytes offset (lists_of m)
  pub statics : AllByRecursion (FieldSuits p owner true []) m.statics
  pub instances : AllByRecursion (FieldSuits p owner false m.statics) m.instances
  pub directs : AllByRecursion (MethodSuits p owner true []) m.directs
  pub virtuals : AllByRecursion (MethodSuits p owner false m.directs) m.virtuals
  pub fields_differ : Distinct (m.statics ++ m.instances)
  pub methods_differ : Distinct (m.directs ++ m.virtuals)

by_place : (bytes : List ℕ) (p : Program) (owner : Owner) (offset : ℕ) (m : Members) → (offset ≡ 0 → ⊥) → (h : AreMembers bytes p owner offset m) → IsClassDataOf bytes offset (lists_of m)
by_place bytes p owner zero m other h = absurd (other refl)
by_place bytes p owner (suc k) m other h = (h.stop, h.data_is)

listed_with : (bytes : List ℕ) (p : Program) (owner : Owner) (offset : ℕ) (m : Members) → (offset ≡ 0 → ⊥) → AreMembers bytes p owner offset m → AreListed bytes p owner offset m
listed_with bytes p owner offset m other h = record {
  data_is = by_place bytes p owner offset m other h;
  statics = h.statics;
  instances = h.instances;
  directs = h.directs;
  virtuals = h.virtuals;
  fields_differ = distinct_append m.statics m.instances (rises_distinct 0 0 m.statics h.ascend.statics.rises) (rises_distinct 0 0 m.instances h.ascend.instances.rises)
      (fields_apart p owner false m.statics m.instances h.instances);
  methods_differ = distinct_append m.directs m.virtuals (rises_distinct 0 0 m.directs h.ascend.directs.rises) (rises_distinct 0 0 m.virtuals h.ascend.virtuals.rises)
      (methods_apart p owner false m.directs m.virtuals h.virtuals);
}

pub founds_listed : (bytes : List ℕ) (p : Program) (owner : Owner) (offset : ℕ) → Founds (AreListed bytes p owner offset) (classes.listed_at bytes p owner offset)
founds_listed bytes p owner offset = either
    (λ e. weaker (Ok no_members) (done no_members) (λ y q. subst (AreListed bytes p owner offset) (sym q) (record {
      data_is = subst (λ (n : ℕ). IsClassDataOf bytes n (lists_of no_members)) (sym (eqb-true offset 0 e)) refl;
      statics = tt;
      instances = tt;
      directs = tt;
      virtuals = tt;
      fields_differ = tt;
      methods_differ = tt;
    })))
    (λ e. weaker _ (founds_members bytes p owner offset) (λ y h. listed_with bytes p owner offset y (λ is. true≢false (sym (eq-eqb offset 0 is) ∙ e)) h))

-- ---- a superclass stands there

founds_root : (p : Program) (d : ClassDef) (interfaces : List ℕ) (place : ℕ) → Founds (λ u. d.superclass ≡ none → ⊥) (root_at p d interfaces place)
unfolding root_at
founds_root p d interfaces place = weaker (root_at p d interfaces place) (when _ (done tt))
    (λ y q is. true≢false (sym (eq-eqb d.superclass none is) ∙ not_true (eqb d.superclass none) (and_parts _ _ q.0).0))

-- ---- the class

module _ (bytes : List ℕ) (few : length bytes < 2 ^ 32) (p : Program) (cs : List Class) where
  abbrev q : Program
  q = record p { classes = cs }

  class_is : (at place : ℕ) (left : Budget) (r : Class × Budget) → IsRead bytes p at place left r → IsClass bytes q (sizes_in p) at r.0
  class_is at place left r h =
      let owner : Owner = record { place = place; kind = h.def.class } in
      let m = h.listed in
      let def : IsReadDef bytes p at h.def = (founds_def bytes p at).found h.def h.def_is in
      let listed : AreListed bytes p owner h.def.data_at m = (founds_listed bytes p owner h.def.data_at).found m h.listed_are in
      let made : Along (IsMade bytes p) (m.directs ++ m.virtuals) h.methods.0 = (founds_methods bytes few p m (record { items = h.interfaces.1; cells = left.cells })).found h.methods h.methods_are in
      let plain : List Field = map field_with (m.statics ++ m.instances) in
      let marked : IsMarked bytes p m h.def.annotations plain h.methods.0 h.marked
      = (founds_marked bytes p place m plain h.methods.0 (map_long field_with (m.statics ++ m.instances)) (along_beside (IsMade bytes p) (m.directs ++ m.virtuals) h.methods.0 made)
      listed.fields_differ listed.methods_differ h.def.annotations h.methods.1.items).found h.marked h.marked_are in
      let d = marked.directory in
      let begun : AreBegun bytes p h.def.static_values (length m.statics) h.marked.fields h.fields.0
      = (founds_begun bytes p h.def.static_values (length m.statics) h.marked.fields h.marked.left).found h.fields h.fields_are in
      let fields = along_split (HasField p cs bytes d) m.statics m.instances h.marked.fields (fields_along p cs bytes d (m.statics ++ m.instances) h.marked.fields marked.fields_are) in
      let statics = split p begun.values fields.0 fields.1 h.fields.0
      (let long = along_beside (HasField p cs bytes d) m.statics fields.0 fields.3 in omega (arith, begun.few, long))
      (subst (λ (fs : List Field). Begun p begun.values fs h.fields.0) fields.2 begun.begun) in
      let own_statics : Along (IsOwn p cs bytes d) m.statics statics.0 = begun_own p cs bytes d begun.values m.statics fields.0 statics.0 fields.3 statics.2 in
      let own_instances : Along (IsOwn p cs bytes d) m.instances fields.1 = own_of p cs bytes d m.instances fields.1 fields.4 in
      let methods = along_split (HasMethod p cs bytes d) m.directs m.virtuals h.marked.methods
      (methods_along p cs bytes d (m.directs ++ m.virtuals) h.methods.0 marked.between h.marked.methods made marked.methods_are marked.parameters_are) in
      subst (IsClass bytes q (sizes_in p) at) (sym h.is) (record {
        def = def_of h.def;
        directory = d;
        lists = lists_of m;
        is_def = def.is;
        parts = record {
          directory_is = marked.is;
          lists_are = listed.data_is;
          in_order = marked.order;
          fields = all_defined m.statics m.instances d.fields marked.defined_fields;
          methods = all_defined m.directs m.virtuals d.methods marked.defined_methods;
          parameters = all_defined m.directs m.virtuals d.parameters marked.defined_parameters;
        };
        name = refl;
        is_type = def.is_type;
        flags = refl;
        superclass = refl;
        above = def.above ((founds_root p h.def h.interfaces.0 place).found tt h.root_is);
        interfaces = (founds_interfaces bytes p h.def.interfaces left.items).found h.interfaces h.interfaces_are;
        source = def.source;
        marks = marked.marks;
        statics = statics.0;
        instances = fields.1;
        fields = statics.1;
        are_statics = are_fields p cs bytes d m.statics statics.0 own_statics;
        are_instances = are_fields p cs bytes d m.instances fields.1 own_instances;
        values = begun.values;
        are_values = begun.are;
        firsts = begun_firsts p cs bytes d begun.values m.statics fields.0 statics.0 fields.3 statics.2;
        none_first = none_first p cs bytes d m.instances fields.1 fields.4;
        static = all_static p cs bytes d true m.statics statics.0 (fields_static p owner true [] m.statics listed.statics) own_statics;
        of_instance = all_static p cs bytes d false m.instances fields.1 (fields_static p owner false m.statics m.instances listed.instances) own_instances;
        directs = methods.0;
        virtuals = methods.1;
        methods = methods.2;
        are_directs = are_methods p cs bytes d m.directs methods.0 methods.3;
        are_virtuals = are_methods p cs bytes d m.virtuals methods.1 methods.4;
        direct = all_direct p cs bytes d true m.directs methods.0 (methods_direct p owner true [] m.directs listed.directs) methods.3;
        virtual = all_direct p cs bytes d false m.virtuals methods.1 (methods_direct p owner false m.directs m.virtuals listed.virtuals) methods.4;
      })

  pub founds_class : (at place : ℕ) (left : Budget) → Founds (λ r. IsClass bytes q (sizes_in p) at r.0) (class_at bytes p at place left)
  founds_class at place left = record { found = λ r h. class_is at place left r ((class_read bytes p at place left).found r h) }
