-- A class_def spells one class alone, and a file one program.
use Rattle.std.proofs.Common.{◌≡◌, ◌≤◌, ◌<◌, ◌^◌, ℕ, zero, suc, ◌+◌, ◌-◌, ◌*◌, Bool, List, [], ◌∷◌, ◌++◌, length, Option, Some, None, refl, sym, ap, subst, ◌∙◌, arith, true≢false}
use Rattle.std.specs.Prelude.{slice_index, ◌==◌}
use Rattle.std.specs.List.{All}
use Rattle.std.proofs.lemmas.List.Elements.{All-head, All-tail}
use Rattle.dex_base.specs.Decides.{Each}
use Rattle.dex_base.proofs.Decides.{ok_is}
use Rattle.program_model.specs.declared.body.Body.{Body}
use Rattle.program_model.specs.declared.flags.Flags.{Flags}
use Rattle.program_model.specs.declared.program.Class.{Class}
use Rattle.program_model.specs.declared.program.Field.{Field}
use Rattle.program_model.specs.declared.program.Method.{Method}
use Rattle.program_model.specs.declared.program.Program.{Program}
use Rattle.program_model.specs.declared.program.Version.{Version}
use Rattle.program_model.specs.declared.program.Version.TheVariants.{V035, V037}
use Rattle.program_model.specs.declared.value.EncValue.{EncValue}
use Rattle.program_model.specs.declared.value.Mark.{Mark}
use Rattle.dex_pools.specs.declared.fault.PoolFault.{PoolFault}
use Rattle.dex_pools.specs.declared.pools.Pools.{Pools}
use Rattle.dex_pools.specs.declared.scalar.TableSizes.{TableSizes}
use Rattle.dex_pools.specs.Marks.{sizes_of}
use Rattle.dex_pools.specs.Spelled.{IsHalfIndex, AreParameters, SpellsPools, parameter_count}
use Rattle.dex_pools.proofs.PoolReading.{finds_pools}
use Rattle.dex_defs.specs.Annotations.{Directory, AreMarksOf, IsDirectoryOf}
use Rattle.dex_defs.specs.ClassData.{Entry, Lists, IsFieldEntry, IsMethodEntry, EntriesTo, IsClassData, IsClassDataOf}
use Rattle.dex_defs.specs.ClassDefs.{IsField, AreFields, IsMethod, AreMethods, Def, IsDef, none, IsSource, IsClass}
use Rattle.dex_defs.specs.Header.{magic_of}
use Rattle.dex_defs.specs.Spells.{Spells, pools_of, sizes_in}
use Rattle.dex_defs.specs.Values.{AreValuesOf, AreFirsts}
use Rattle.read_laws.proofs.Bounds.{AreBytes, word_below}
use Rattle.spelled_law.proofs.Once.{two, three, four, once_16, once_32, uleb_parts, each_once, cons_same, marks_once, sets_once, values_once, directory_once}
use Rattle.spelled_law.proofs.OnceCode.{code_of_once}

-- ---- class data

abbrev entry_made : ℕ → ℕ → ℕ → Entry
entry_made number flags code = record { number = number; flags = flags; code = code }

-- an entry and the place behind it
pub record Same (e f : Entry) (m n : ℕ) : Type 0 where
  pub entry : e ≡ f
  pub place : m ≡ n

pub field_once : (bytes : List ℕ) (before at at' : ℕ) (e f : Entry) (m n : ℕ) → at ≡ at' → IsFieldEntry bytes before at e m → IsFieldEntry bytes before at' f n → Same e f m n
field_once bytes before at at' e f m n same a b =
    let step = uleb_parts bytes at at' a.step b.step a.mid b.mid same a.is_step b.is_step in
    let flags = uleb_parts bytes a.mid b.mid e.flags f.flags m n step.1 a.flags b.flags in
    record { entry = three entry_made (a.number ∙ ap (λ (k : ℕ). before + k) step.0 ∙ sym b.number) flags.0 (a.code ∙ sym b.code); place = flags.1 }

pub method_once : (bytes : List ℕ) (before at at' : ℕ) (e f : Entry) (m n : ℕ) → at ≡ at' → IsMethodEntry bytes before at e m → IsMethodEntry bytes before at' f n → Same e f m n
method_once bytes before at at' e f m n same a b =
    let step = uleb_parts bytes at at' a.step b.step a.mid b.mid same a.is_step b.is_step in
    let flags = uleb_parts bytes a.mid b.mid e.flags f.flags a.next b.next step.1 a.flags b.flags in
    let code = uleb_parts bytes a.next b.next e.code f.code m n flags.1 a.code b.code in
    record { entry = three entry_made (a.number ∙ ap (λ (k : ℕ). before + k) step.0 ∙ sym b.number) flags.0 code.0; place = code.1 }

abbrev pub Once : (ℕ → ℕ → Entry → ℕ → Type 0) → Type 0
Once Is = (before at at' : ℕ) (e f : Entry) (m n : ℕ) → at ≡ at' → Is before at e m → Is before at' f n → Same e f m n

pub entries_once : (Is : ℕ → ℕ → Entry → ℕ → Type 0) → Once Is → (before before' at at' : ℕ) → before ≡ before' → at ≡ at' → (es fs : List Entry) (stop end : ℕ) → length es ≡ length fs
    → EntriesTo Is before at es stop → EntriesTo Is before' at' fs end → (es ≡ fs) × (stop ≡ end)
entries_once Is once before before' at at' behind same [] [] stop end l a b = (refl, a ∙ same ∙ sym b)
entries_once Is once before before' at at' behind same [] (f ∷ fs) stop end l a b = absurd cc
entries_once Is once before before' at at' behind same (e ∷ es) [] stop end l a b = absurd cc
entries_once Is once before before' at at' behind same (e ∷ es) (f ∷ fs) stop end l a b =
    let s = once before at at' e f a.0 b.0 same a.1 (subst (λ (k : ℕ). Is k at' f b.0) (sym behind) b.1) in
    let rest = entries_once Is once e.number f.number a.0 b.0 (ap (λ (x : Entry). x.number) s.entry) s.place es fs stop end (omega (arith, l)) a.2 b.2 in
    (cons_same s.entry rest.0, rest.1)

abbrev lists_made : List Entry → List Entry → List Entry → List Entry → Lists
lists_made statics instances directs virtuals = record { statics = statics; instances = instances; directs = directs; virtuals = virtuals }

data_once : (bytes : List ℕ) (at : ℕ) (x y : Lists) (stop end : ℕ) → IsClassData bytes at x stop → IsClassData bytes at y end → x ≡ y
data_once bytes at x y stop end a b =
    let one = uleb_parts bytes at at (length x.statics) (length y.statics) a.counts.second b.counts.second refl a.counts.statics b.counts.statics in
    let second = uleb_parts bytes a.counts.second b.counts.second (length x.instances) (length y.instances) a.counts.third b.counts.third one.1 a.counts.instances b.counts.instances in
    let third = uleb_parts bytes a.counts.third b.counts.third (length x.directs) (length y.directs) a.counts.fourth b.counts.fourth second.1 a.counts.directs b.counts.directs in
    let fourth = uleb_parts bytes a.counts.fourth b.counts.fourth (length x.virtuals) (length y.virtuals) a.begin b.begin third.1 a.counts.virtuals b.counts.virtuals in
    let statics = entries_once (IsFieldEntry bytes) (field_once bytes) 0 0 a.begin b.begin refl fourth.1 x.statics y.statics a.instances_at b.instances_at one.0 a.statics b.statics in
    let instances = entries_once (IsFieldEntry bytes) (field_once bytes) 0 0 a.instances_at b.instances_at refl statics.1 x.instances y.instances a.directs_at b.directs_at second.0 a.instances b.instances in
    let directs = entries_once (IsMethodEntry bytes) (method_once bytes) 0 0 a.directs_at b.directs_at refl instances.1 x.directs y.directs a.virtuals_at b.virtuals_at third.0 a.directs b.directs in
    let virtuals = entries_once (IsMethodEntry bytes) (method_once bytes) 0 0 a.virtuals_at b.virtuals_at refl directs.1 x.virtuals y.virtuals stop end fourth.0 a.virtuals b.virtuals in
    four lists_made statics.0 instances.0 directs.0 virtuals.0

lists_once : (bytes : List ℕ) (offset : ℕ) (x y : Lists) → IsClassDataOf bytes offset x → IsClassDataOf bytes offset y → x ≡ y
lists_once bytes zero x y a b = a ∙ sym b
lists_once bytes (suc k) x y a b = data_once bytes (suc k) x y a.0 b.0 a.1 b.1

-- ---- the class_def

abbrev def_made : ℕ → ℕ → ℕ → ℕ → ℕ → ℕ → ℕ → ℕ → Def
def_made name flags superclass interfaces source annotations data_at values =
    record { name = name; flags = flags; superclass = superclass; interfaces = interfaces; source = source; annotations = annotations; data_at = data_at; values = values }

pub def_once : (bytes : List ℕ) (at : ℕ) (x y : Def) → IsDef bytes at x → IsDef bytes at y → x ≡ y
def_once bytes at x y a b =
    four (λ (name flags superclass interfaces : ℕ). def_made name flags superclass interfaces x.source x.annotations x.data_at x.values)
    (once_32 bytes at x.name y.name a.name b.name) (once_32 bytes (at + 4) x.flags y.flags a.flags b.flags)
    (once_32 bytes (at + 8) x.superclass y.superclass a.superclass b.superclass) (once_32 bytes (at + 12) x.interfaces y.interfaces a.interfaces b.interfaces)
    ∙ four (def_made y.name y.flags y.superclass y.interfaces)
    (once_32 bytes (at + 16) x.source y.source a.source b.source) (once_32 bytes (at + 20) x.annotations y.annotations a.annotations b.annotations)
    (once_32 bytes (at + 24) x.data_at y.data_at a.data_at b.data_at) (once_32 bytes (at + 28) x.values y.values a.values b.values)

types_once : (bytes : List ℕ) (size offset : ℕ) (xs ys : List ℕ) → AreParameters bytes size offset xs → AreParameters bytes size offset ys → xs ≡ ys
types_once bytes size zero xs ys a b = a ∙ sym b
types_once bytes size (suc k) xs ys a b =
    each_once (λ i n. IsHalfIndex bytes (suc k + 4 + 2 * i) size n) (λ i m n h g. once_16 bytes (suc k + 4 + 2 * i) m n h.is g.is) 0 xs ys
    (once_32 bytes (suc k) (length xs) (length ys) a.count b.count) a.entries.1 b.entries.1

source_once : (strings number : ℕ) (x y : Option ℕ) → strings ≤ none → IsSource strings number x → IsSource strings number y → x ≡ y
source_once strings number None None few a b = refl
source_once strings number None (Some s) few a b = absurd (omega (arith, few, a, b.0, b.1))
source_once strings number (Some r) None few a b = absurd (omega (arith, few, b, a.0, a.1))
source_once strings number (Some r) (Some s) few a b = ap (λ (n : ℕ). Some n) (sym a.0 ∙ b.0)

-- ---- members

flags_same : (x y : Flags) → x.0 ≡ y.0 → x ≡ y
flags_same x y e = ap flags e
  where
    flags : ℕ → Flags
    flags bits = record { 0 = bits }

abbrev field_made : ℕ → Flags → Option EncValue → List Mark → Field
field_made name flags first marks = record { name = name; flags = flags; first = first; marks = marks }

one_field : (bytes : List ℕ) (sizes : TableSizes) (d : Directory) (e : Entry) (f g : Field) → IsField bytes sizes d e f → IsField bytes sizes d e g → f.first ≡ g.first → f ≡ g
one_field bytes sizes d e f g a b first =
    four field_made (a.number ∙ sym b.number) (flags_same f.flags g.flags (a.flags ∙ sym b.flags)) first (marks_once bytes sizes _ f.marks g.marks a.marks b.marks)

plain_once : (bytes : List ℕ) (sizes : TableSizes) (d : Directory) (es : List Entry) (fs gs : List Field) → AreFields bytes sizes d es fs → AreFields bytes sizes d es gs
    → All (λ (f : Field). f.first ≡ None) fs → All (λ (f : Field). f.first ≡ None) gs → fs ≡ gs
plain_once bytes sizes d [] [] [] a b n m = refl
plain_once bytes sizes d [] [] (g ∷ gs) a b n m = absurd b
plain_once bytes sizes d [] (f ∷ fs) gs a b n m = absurd a
plain_once bytes sizes d (e ∷ es) [] gs a b n m = absurd a
plain_once bytes sizes d (e ∷ es) (f ∷ fs) [] a b n m = absurd b
plain_once bytes sizes d (e ∷ es) (f ∷ fs) (g ∷ gs) a b n m =
    cons_same (one_field bytes sizes d e f g a.0 b.0 (All-head (λ (x : Field). x.first ≡ None) f fs n ∙ sym (All-head (λ (x : Field). x.first ≡ None) g gs m)))
    (plain_once bytes sizes d es fs gs a.1 b.1 (All-tail (λ (x : Field). x.first ≡ None) f fs n) (All-tail (λ (x : Field). x.first ≡ None) g gs m))

fields_once : (bytes : List ℕ) (sizes : TableSizes) (d : Directory) (p q : Program) (vs : List EncValue) (es : List Entry) (fs gs : List Field) → AreFields bytes sizes d es fs → AreFields bytes sizes d es gs
    → AreFirsts p vs fs → AreFirsts q vs gs → fs ≡ gs
fields_once bytes sizes d p q [] es fs gs a b n m = plain_once bytes sizes d es fs gs a b n m
fields_once bytes sizes d p q (v ∷ vs) es [] gs a b n m = absurd n
fields_once bytes sizes d p q (v ∷ vs) es (f ∷ fs) [] a b n m = absurd m
fields_once bytes sizes d p q (v ∷ vs) [] (f ∷ fs) (g ∷ gs) a b n m = absurd a
fields_once bytes sizes d p q (v ∷ vs) (e ∷ es) (f ∷ fs) (g ∷ gs) a b n m =
    cons_same (one_field bytes sizes d e f g a.0 b.0 (n.1 ∙ sym m.1)) (fields_once bytes sizes d p q vs es fs gs a.1 b.1 n.2 m.2)

abbrev method_made : ℕ → Flags → List Mark → List (List Mark) → Option Body → List ℕ → Method
method_made name flags marks parameter_marks body lines = record { name = name; flags = flags; marks = marks; parameter_marks = parameter_marks; body = body; lines = lines }

one_method : (bytes : List ℕ) (few : length bytes < 2 ^ 32) (sizes : TableSizes) (types : ℕ) (d : Directory) (e : Entry) (m n : Method) → IsMethod bytes sizes types d e m → IsMethod bytes sizes types d e n → m ≡ n
one_method bytes few sizes types d e m n a b =
    let code = code_of_once bytes types e.code m.body n.body m.lines n.lines few a.code b.code in
    four (λ (name : ℕ) (flags : Flags) (marks : List Mark) (parameter_marks : List (List Mark)). method_made name flags marks parameter_marks m.body m.lines)
    (a.number ∙ sym b.number) (flags_same m.flags n.flags (a.flags ∙ sym b.flags)) (marks_once bytes sizes _ m.marks n.marks a.marks b.marks) (sets_once bytes sizes _ m.parameter_marks n.parameter_marks a.parameter_marks b.parameter_marks)
    ∙ two (method_made n.name n.flags n.marks n.parameter_marks) code.0 code.1

methods_once : (bytes : List ℕ) (few : length bytes < 2 ^ 32) (sizes : TableSizes) (types : ℕ) (d : Directory) (es : List Entry) (ms ns : List Method) → AreMethods bytes sizes types d es ms → AreMethods bytes sizes types d es ns → ms ≡ ns
methods_once bytes few sizes types d [] [] [] a b = refl
methods_once bytes few sizes types d [] [] (n ∷ ns) a b = absurd b
methods_once bytes few sizes types d [] (m ∷ ms) ns a b = absurd a
methods_once bytes few sizes types d (e ∷ es) [] ns a b = absurd a
methods_once bytes few sizes types d (e ∷ es) (m ∷ ms) [] a b = absurd b
methods_once bytes few sizes types d (e ∷ es) (m ∷ ms) (n ∷ ns) a b = cons_same (one_method bytes few sizes types d e m n a.0 b.0) (methods_once bytes few sizes types d es ms ns a.1 b.1)

-- ---- the class

abbrev class_made : ℕ → Flags → ℕ → List ℕ → Option ℕ → List Mark → List Field → List Method → Class
class_made name flags superclass interfaces source marks fields methods =
    record { name = name; flags = flags; superclass = superclass; interfaces = interfaces; source = source; marks = marks; fields = fields; methods = methods }

-- in one file, for programs with the same tables
module _ (bytes : List ℕ) (few : length bytes < 2 ^ 32) (p q : Program) (sizes : TableSizes) (strings : length p.strings ≡ length q.strings) (types : length p.types ≡ length q.types) (short : length p.strings ≤ none) where
  class_once : (at : ℕ) (c d : Class) → IsClass bytes p sizes at c → IsClass bytes q sizes at d → c ≡ d
  class_once at c d a b =
      let def = def_once bytes at a.def b.def a.is_def b.is_def in
      let directory : a.directory ≡ b.directory = directory_once bytes a.def.annotations a.directory b.directory a.parts.directory_is
      (subst (λ (x : Def). IsDirectoryOf bytes x.annotations b.directory) (sym def) b.parts.directory_is) in
      let lists : a.lists ≡ b.lists = lists_once bytes a.def.data_at a.lists b.lists a.parts.lists_are (subst (λ (x : Def). IsClassDataOf bytes x.data_at b.lists) (sym def) b.parts.lists_are) in
      let values : a.values ≡ b.values = values_once bytes sizes a.def.values a.values b.values a.are_values (subst (λ (x : Def). AreValuesOf bytes sizes x.values b.values) (sym def) b.are_values) in
      let interfaces : c.interfaces ≡ d.interfaces = types_once bytes (length p.types) a.def.interfaces c.interfaces d.interfaces a.interfaces
      (subst (λ (n : ℕ). AreParameters bytes n a.def.interfaces d.interfaces) (sym types) (subst (λ (x : Def). AreParameters bytes (length q.types) x.interfaces d.interfaces) (sym def) b.interfaces)) in
      let source : c.source ≡ d.source = source_once (length p.strings) a.def.source c.source d.source short a.source
      (subst (λ (n : ℕ). IsSource n a.def.source d.source) (sym strings) (subst (λ (x : Def). IsSource (length q.strings) x.source d.source) (sym def) b.source)) in
      let marks : c.marks ≡ d.marks = marks_once bytes sizes a.directory.class c.marks d.marks a.marks (subst (λ (x : Directory). AreMarksOf bytes sizes x.class d.marks) (sym directory) b.marks) in
      let statics : a.statics ≡ b.statics = fields_once bytes sizes a.directory p q a.values a.lists.statics a.statics b.statics a.are_statics
      (moved (λ (x : Directory) (y : Lists). AreFields bytes sizes x y.statics b.statics) directory lists b.are_statics) a.firsts (subst (λ (vs : List EncValue). AreFirsts q vs b.statics) (sym values) b.firsts) in
      let instances : a.instances ≡ b.instances = fields_once bytes sizes a.directory p q [] a.lists.instances a.instances b.instances a.are_instances
      (moved (λ (x : Directory) (y : Lists). AreFields bytes sizes x y.instances b.instances) directory lists b.are_instances) a.none_first b.none_first in
      let directs : a.directs ≡ b.directs = methods_once bytes few sizes (length p.types) a.directory a.lists.directs a.directs b.directs a.are_directs
      (subst (λ (n : ℕ). AreMethods bytes sizes n a.directory a.lists.directs b.directs) (sym types) (moved (λ (x : Directory) (y : Lists). AreMethods bytes sizes (length q.types) x y.directs b.directs) directory lists b.are_directs)) in
      let virtuals : a.virtuals ≡ b.virtuals = methods_once bytes few sizes (length p.types) a.directory a.lists.virtuals a.virtuals b.virtuals a.are_virtuals
      (subst (λ (n : ℕ). AreMethods bytes sizes n a.directory a.lists.virtuals b.virtuals) (sym types) (moved (λ (x : Directory) (y : Lists). AreMethods bytes sizes (length q.types) x y.virtuals b.virtuals) directory lists b.are_virtuals)) in
      four (λ (name : ℕ) (flags : Flags) (superclass : ℕ) (interfaces : List ℕ). class_made name flags superclass interfaces c.source c.marks c.fields c.methods)
      (a.name ∙ ap (λ (x : Def). x.name) def ∙ sym b.name) (flags_same c.flags d.flags (a.flags ∙ ap (λ (x : Def). x.flags) def ∙ sym b.flags)) (a.superclass ∙ ap (λ (x : Def). x.superclass) def ∙ sym b.superclass) interfaces
      ∙ four (class_made d.name d.flags d.superclass d.interfaces) source marks
      (a.fields ∙ two (λ (xs ys : List Field). xs ++ ys) statics instances ∙ sym b.fields) (a.methods ∙ two (λ (xs ys : List Method). xs ++ ys) directs virtuals ∙ sym b.methods)
    where
      moved : (T : Directory → Lists → Type 0) {x y : Directory} {l m : Lists} → x ≡ y → l ≡ m → T y m → T x l
      moved T {y = y} {l = l} e g h = subst (λ k. T k l) (sym e) (subst (λ k. T y k) (sym g) h)

  classes_once : (offset from : ℕ) (cs ds : List Class) → length cs ≡ length ds → Each (λ i c. IsClass bytes p sizes (offset + 32 * i) c) from cs → Each (λ i c. IsClass bytes q sizes (offset + 32 * i) c) from ds → cs ≡ ds
  classes_once offset from [] [] l a b = refl
  classes_once offset from [] (d ∷ ds) l a b = absurd cc
  classes_once offset from (c ∷ cs) [] l a b = absurd cc
  classes_once offset from (c ∷ cs) (d ∷ ds) l a b = cons_same (class_once (offset + 32 * from) c d a.0 b.0) (classes_once offset (suc from) cs ds (omega (arith, l)) a.1 b.1)

-- ---- the program

pools_once : (bytes : List ℕ) (x y : Pools) → SpellsPools bytes 16777216 x → SpellsPools bytes 16777216 y → x ≡ y
pools_once bytes x y a b =
    let f = finds_pools bytes 16777216 in
    ap (λ (r : Pools × ℕ). r.0) (ok_is {F = PoolFault} (x, 16777216 - parameter_count x.protos) (y, 16777216 - parameter_count y.protos)
    (sym (f.again (x, 16777216 - parameter_count x.protos) (a, refl)) ∙ f.again (y, 16777216 - parameter_count y.protos) (b, refl)))

is_five : List ℕ → Bool
is_five bytes = slice_index bytes 6 == 53

version_once : (v w : Version) → magic_of v ≡ magic_of w → v ≡ w
unfolding is_five
version_once V035 V035 e = refl
version_once V037 V037 e = refl
version_once V035 V037 e = absurd (true≢false (ap is_five e))
version_once V037 V035 e = absurd (true≢false (ap is_five (sym e)))

abbrev program_made : Version → Pools → List Class → Program
program_made version pools classes = record { strings = pools.strings; types = pools.types; protos = pools.protos; fields = pools.fields; methods = pools.methods; classes = classes; version = version }

pub spells_once : (bytes : List ℕ) (p q : Program) → AreBytes bytes → Spells bytes p → Spells bytes q → p ≡ q
spells_once bytes p q are a b =
    let version : p.version ≡ q.version = version_once p.version q.version (sym a.header.magic ∙ b.header.magic) in
    let pools : pools_of p ≡ pools_of q = pools_once bytes (pools_of p) (pools_of q) a.pools b.pools in
    let size : a.table.size ≡ b.table.size = once_32 bytes 96 a.table.size b.table.size a.stands.size b.stands.size in
    let offset : a.table.offset ≡ b.table.offset = once_32 bytes 100 a.table.offset b.table.offset a.stands.offset b.stands.offset in
    let few : length bytes < 2 ^ 32 = word_below bytes are 32 (length bytes) a.header.file_size in
    let short : length p.strings ≤ none = strings_few (length p.strings) a.pools.strings.0 (word_below bytes are 56 a.pools.tables.strings.size a.pools.stand.strings.size) in
    let classes : p.classes ≡ q.classes = classes_once bytes few p q (sizes_in p) (ap (λ (x : Pools). length x.strings) pools) (ap (λ (x : Pools). length x.types) pools) short
    a.table.offset 0 p.classes q.classes (a.classes.0 ∙ size ∙ sym b.classes.0) a.classes.1
    (subst (λ (n : ℕ). Each (λ i c. IsClass bytes q (sizes_in p) (n + 32 * i) c) 0 q.classes) (sym offset)
    (subst (λ (x : Pools). Each (λ i c. IsClass bytes q (sizes_of x) (b.table.offset + 32 * i) c) 0 q.classes) (sym pools) b.classes.1)) in
    three program_made version pools classes
  where
    strings_few : (n : ℕ) {size : ℕ} → n ≡ size → size < 2 ^ 32 → n ≤ none
    strings_few n e h = omega (arith, e, h)
