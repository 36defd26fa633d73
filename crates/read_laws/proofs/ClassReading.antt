-- A class that is read: its parts, and_both its types and_both its source.
use Rattle.std.proofs.Common.{◌≡◌, ℕ, suc, ◌+◌, ◌*◌, Bool, true, false, cond, not, ltb, eqb, List, [], ◌∷◌, ◌++◌, map, length, min, Some, None, Ok, refl, sym, ap, subst, arith}
use Rattle.std.specs.Prelude.{◌&&◌, ◌||◌}
use Rattle.std.specs.List.{list_all}
use Rattle.std.proofs.Math.Nat.{min-le_left}
use Rattle.std.proofs.lemmas.Bool.{ltb-true, lt-ltb}
use Rattle.lemmas.proofs.Bools.{and_both, and_parts}
use Rattle.program_model.specs.Texts.{letter_of, type_text, is_class}
use Rattle.program_model.specs.MemberRules.{is_class_type, is_object, types_of_class_fit, source_fits}
use Rattle.program_model.specs.declared.program.Class.{Class}
use Rattle.program_model.specs.declared.program.Field.{Field}
use Rattle.program_model.specs.declared.program.Method.{Method}
use Rattle.program_model.specs.declared.program.Program.{Program}
use Rattle.dex_pools.specs.Finds.{RunOf}
use Rattle.program_model.specs.declared.limits.Counted.TheVariants.{Items}
use Rattle.dex_pools.specs.Items.{spend, count_at, listed_at, type_list_at}
use Rattle.dex_read.specs.declared.class_data.Members.{Members}
use Rattle.dex_read.specs.declared.class_defs.ClassDef.{ClassDef}
use Rattle.dex_read.specs.declared.members.Budget.{Budget}
use Rattle.dex_read.specs.Classes.{none, index_at, def_at, interfaces_at, root_at, field_with, methods_of, marked_at, begun_at, source_of, class_with, class_at}
use Rattle.dex_read.specs.Classes as classes
use Rattle.dex_read.specs.Directory.{Marked}
use Rattle.dex_read.specs.Faults.{of_pool}
use Rattle.dex_read.specs.Tables.{sizes_in}
use Rattle.dex_pools.specs.Word.{half_at, half_index_at}
use Rattle.dex_read.specs.Word.{word_at}
use Rattle.read_laws.proofs.Readings.{Reads, anything, itself, weaker, done, when, either, next, lifted, reads_run}

-- ---- the parts of a class that is read

pub record IsRead (bytes : List ℕ) (p : Program) (at place : ℕ) (left : Budget) (r : Class × Budget) : Type 0 where
  pub def : ClassDef
  pub interfaces : List ℕ × ℕ
  pub listed : Members
  pub methods : List Method × Budget
  pub marked : Marked
  pub fields : List Field × ℕ
  pub def_is : def_at bytes p at ≡ Ok def
  pub interfaces_are : interfaces_at bytes p def.interfaces left.items ≡ Ok interfaces
  pub root_is : root_at p def interfaces.0 place ≡ Ok tt
  pub listed_are : classes.listed_at bytes p (record { place = place; kind = def.class }) def.data_at ≡ Ok listed
  pub methods_are : methods_of bytes p listed (record { items = interfaces.1; cells = left.cells }) ≡ Ok methods
  pub marked_are : marked_at bytes p place listed def.annotations (map field_with (listed.statics ++ listed.instances)) methods.0 methods.1.items ≡ Ok marked
  pub fields_are : begun_at bytes p def.static_values (length listed.statics) marked.fields marked.left ≡ Ok fields
  pub is : r.0 ≡ class_with def interfaces.0 marked fields.0

pub class_read : (bytes : List ℕ) (p : Program) (at place : ℕ) (left : Budget) → Reads (IsRead bytes p at place left) (class_at bytes p at place left)
unfolding class_at
class_read bytes p at place left = weaker (class_at bytes p at place left)
    (next (itself (def_at bytes p at)) (λ def _.
    next (itself (interfaces_at bytes p def.interfaces left.items)) (λ interfaces _.
    next (itself (root_at p def interfaces.0 place)) (λ root _.
    next (itself (classes.listed_at bytes p (record { place = place; kind = def.class }) def.data_at)) (λ listed _.
    next (itself (methods_of bytes p listed (record { items = interfaces.1; cells = left.cells }))) (λ methods _.
    next (itself (marked_at bytes p place listed def.annotations (map field_with (listed.statics ++ listed.instances)) methods.0 methods.1.items)) (λ marked _.
    next (itself (begun_at bytes p def.static_values (length listed.statics) marked.fields marked.left)) (λ fields _.
    done (class_with def interfaces.0 marked fields.0, record { items = fields.1; cells = methods.1.cells })))))))))
    (λ y q.
    let q1 = q.2 in let q2 = q1.2 in let q3 = q2.2 in let q4 = q3.2 in let q5 = q4.2 in let q6 = q5.2 in
    record {
      def = q.0;
      interfaces = q1.0;
      listed = q3.0;
      methods = q4.0;
      marked = q5.0;
      fields = q6.0;
      def_is = q.1;
      interfaces_are = q1.1;
      root_is = q2.1;
      listed_are = q3.1;
      methods_are = q4.1;
      marked_are = q5.1;
      fields_are = q6.1;
      is = ap (λ (r : Class × Budget). r.0) q6.2;
    })

-- ---- entries of tables

pub in_table : (n size : ℕ) → ltb n (min size 4294967295) ≡ true → ltb n size ≡ true
in_table n size h = lt-ltb n size (omega (arith, ltb-true n (min size 4294967295) h, min-le_left size 4294967295))

reads_entry : (bytes : List ℕ) (at size : ℕ) (may : Bool) → Reads (λ n. (ltb n size || (may && eqb n none)) ≡ true) (index_at bytes at size may)
unfolding index_at
reads_entry bytes at size may = weaker (index_at bytes at size may) (next (anything (word_at bytes at)) (λ n _. when _ (done n)))
    (λ y p. subst (λ n. (ltb n size || (may && eqb n none)) ≡ true) (sym p.2.1) p.2.0)

record Names (p : Program) (d : ClassDef) : Type 0 where
  class : (ltb d.class (sizes_in p).types || (false && eqb d.class none)) ≡ true
  superclass : (ltb d.superclass (sizes_in p).types || (true && eqb d.superclass none)) ≡ true
  source : (ltb d.source (sizes_in p).strings || (true && eqb d.source none)) ≡ true

reads_def : (bytes : List ℕ) (p : Program) (at : ℕ) → Reads (Names p) (def_at bytes p at)
unfolding def_at
reads_def bytes p at = weaker (def_at bytes p at)
    (next (reads_entry bytes at (sizes_in p).types false) (λ class _.
    next (anything (word_at bytes (at + 4))) (λ flags _.
    next (reads_entry bytes (at + 8) (sizes_in p).types true) (λ superclass _.
    next (anything (word_at bytes (at + 12))) (λ interfaces _.
    next (reads_entry bytes (at + 16) (sizes_in p).strings true) (λ source _.
    next (anything (word_at bytes (at + 20))) (λ annotations _.
    next (anything (word_at bytes (at + 24))) (λ data_at _.
    next (anything (word_at bytes (at + 28))) (λ static_values _.
    done (record { class = class; flags = flags; superclass = superclass; interfaces = interfaces; source = source; annotations = annotations; data_at = data_at; static_values = static_values }))))))))))
    (λ y q. let q2 = q.2.2 in let q4 = q2.2.2 in let q7 = q4.2.2.2 in
    subst (Names p) (sym q7.2) (record { class = q.1; superclass = q2.1; source = q4.1 }))

-- ---- interfaces

reads_half : (bytes : List ℕ) (at size : ℕ) → Reads (λ n. ltb n size ≡ true) (half_index_at bytes at size)
unfolding half_index_at
reads_half bytes at size = weaker (half_index_at bytes at size) (next (anything (half_at bytes at)) (λ n _. when _ (done n))) (λ y p. subst (λ n. ltb n size ≡ true) (sym p.2.1) p.2.0)

reads_listed : (bytes : List ℕ) (at size i left : ℕ) → Reads (λ r. ltb r.0 size ≡ true) (listed_at bytes at size i left)
unfolding listed_at
reads_listed bytes at size i left = weaker (listed_at bytes at size i left)
    (next (anything (spend Items 1 left)) (λ behind _. next (reads_half bytes (at + 4 + 2 * i) size) (λ kind _. done (kind, behind))))
    (λ y p. subst (λ (r : ℕ × ℕ). ltb r.0 size ≡ true) (sym p.2.2) p.2.1)

-- what is known of each entry of a run
pub all_of : {X S : Type 0} (test : X → Bool) (Is : ℕ → S → X × S → Type 0) → ((i : ℕ) (s : S) (r : X × S) → Is i s r → test r.0 ≡ true) → (from : ℕ) (s : S) (xs : List X) (stop : S)
    → RunOf Is from s xs stop → list_all test xs ≡ true
all_of test Is to from s [] stop h = refl
all_of test Is to from s (x ∷ xs) stop h = and_both (test x) (list_all test xs) (to from s (x, h.0) h.1) (all_of test Is to (suc from) h.0 xs stop h.2)

reads_types : (bytes : List ℕ) (at size left : ℕ) → Reads (λ r. list_all (λ n. ltb n size) r.0 ≡ true) (type_list_at bytes at size left)
unfolding type_list_at
reads_types bytes at size left = weaker (type_list_at bytes at size left)
    (next (anything (count_at bytes at 2)) (λ count _. reads_run (λ i s r. ltb r.0 size ≡ true) (listed_at bytes at size) (reads_listed bytes at size) 0 count left))
    (λ y p. all_of (λ n. ltb n size) (λ i s r. ltb r.0 size ≡ true) (λ i s r h. h) 0 left y.0 y.1 p.2)

reads_interfaces : (bytes : List ℕ) (p : Program) (offset left : ℕ) → Reads (λ r. list_all (λ n. ltb n (sizes_in p).types) r.0 ≡ true) (interfaces_at bytes p offset left)
unfolding interfaces_at
reads_interfaces bytes p offset left = either
    (λ e. weaker (Ok ([], left)) (done ([], left)) (λ y h. subst (λ (r : List ℕ × ℕ). list_all (λ n. ltb n (sizes_in p).types) r.0 ≡ true) (sym h) refl))
    (λ e. lifted of_pool (reads_types bytes offset (sizes_in p).types left))

-- ---- types and_both source

record IsRooted (p : Program) (d : ClassDef) (interfaces : List ℕ) : Type 0 where
  has_superclass : not (eqb d.superclass none) ≡ true
  no_object : not (is_object (type_text p d.class)) ≡ true
  class : is_class (letter_of p d.class) ≡ true
  superclass : is_class (letter_of p d.superclass) ≡ true
  interfaces_are : list_all (classes.is_class_type p) interfaces ≡ true

reads_root : (p : Program) (d : ClassDef) (interfaces : List ℕ) (place : ℕ) → Reads (λ u. IsRooted p d interfaces) (root_at p d interfaces place)
unfolding root_at
reads_root p d interfaces place = weaker (root_at p d interfaces place) (when _ (done tt))
    (λ y q. let a = and_parts _ _ q.0 in let b = and_parts _ _ a.1 in let c = and_parts _ _ b.1 in let e = and_parts _ _ c.1 in
    record { has_superclass = a.0; no_object = b.0; class = c.0; superclass = e.0; interfaces_are = e.1 })

class_types : (p : Program) (types : List ℕ) → list_all (λ n. ltb n (sizes_in p).types) types ≡ true → list_all (classes.is_class_type p) types ≡ true → list_all (is_class_type p) types ≡ true
class_types p [] h g = refl
class_types p (n ∷ ns) h g = let a = and_parts _ _ h in let b = and_parts _ _ g in
    and_both _ _ (and_both _ _ (in_table n (length p.types) a.0) b.0) (class_types p ns a.1 b.1)

must : (n size : ℕ) → (ltb n size || (false && eqb n none)) ≡ true → ltb n size ≡ true
must n size h = must_be (ltb n size) h
  where
    must_be : (a : Bool) → (a || false) ≡ true → a ≡ true
    must_be true h = refl
    must_be false h = absurd cc

may : (n size : ℕ) → (ltb n size || (true && eqb n none)) ≡ true → not (eqb n none) ≡ true → ltb n size ≡ true
may n size h g = may_be (ltb n size) (eqb n none) h g
  where
    may_be : (a b : Bool) → (a || b) ≡ true → not b ≡ true → a ≡ true
    may_be true b h g = refl
    may_be false true h g = absurd cc
    may_be false false h g = absurd cc

pub types_fit : (bytes : List ℕ) (p : Program) (at place : ℕ) (left : Budget) (r : Class × Budget) → IsRead bytes p at place left r → types_of_class_fit p r.0 ≡ true
unfolding types_of_class_fit
types_fit bytes p at place left r q =
    let n = (reads_def bytes p at).found q.def q.def_is in
    let i = (reads_interfaces bytes p q.def.interfaces left.items).found q.interfaces q.interfaces_are in
    let o = (reads_root p q.def q.interfaces.0 place).found tt q.root_is in
    subst (λ (c : Class). types_of_class_fit p c ≡ true) (sym q.is)
    (and_both _ _ (and_both _ _ (and_both _ _ (in_table q.def.class (length p.types) (must q.def.class (sizes_in p).types n.class)) o.class) o.no_object)
    (and_both _ _ (and_both _ _ (in_table q.def.superclass (length p.types) (may q.def.superclass (sizes_in p).types n.superclass o.has_superclass)) o.superclass)
    (class_types p q.interfaces.0 i o.interfaces_are)))

by_source : (p : Program) (n : ℕ) (b : Bool) → (ltb n (sizes_in p).strings || b) ≡ true → source_fits p (cond b None (Some n)) ≡ true
by_source p n true h = refl
by_source p n false h = in_table n (length p.strings) (must n (sizes_in p).strings h)

pub source_is : (bytes : List ℕ) (p : Program) (at place : ℕ) (left : Budget) (r : Class × Budget) → IsRead bytes p at place left r → source_fits p r.0.source ≡ true
source_is bytes p at place left r q =
    let n = (reads_def bytes p at).found q.def q.def_is in
    subst (λ (c : Class). source_fits p c.source ≡ true) (sym q.is) (by_source p q.def.source (eqb q.def.source none) n.source)
