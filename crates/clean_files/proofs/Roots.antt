-- A class that is read has the types that it may have, and stands on what it may stand on.
use Rattle.std.proofs.Common.{◌≡◌, ◌<◌, ℕ, ◌+◌, ◌*◌, Bool, true, false, cond, not, eqb, List, length, Some, Result, Ok, Err, refl, sym, ap, subst, ◌∙◌, arith}
use Rattle.std.specs.Prelude.{slice_get, codes, ◌&&◌, ◌||◌}
use Rattle.std.specs.Cmp.Lexicographic.{bytes_decides}
use Rattle.std.specs.List.{list_all}
use Rattle.std.proofs.lemmas.Bool.{eqb-true, eq-eqb}
use Rattle.lemmas.proofs.Bools.{and_parts, and_both, clash, not_true}
use Rattle.lemmas.proofs.Lists.{get_there, all_at, any_at}
use Rattle.dex_base.specs.Word.{Is16, Is32}
use Rattle.program_model.specs.Texts.{type_text, letter_of}
use Rattle.program_model.specs.MemberRules.{is_object}
use Rattle.program_model.specs.InterfaceRules.{is_plain_class, defines_so, defines_plain, stands_free, interfaces_stand_free}
use Rattle.program_model.specs.declared.program.Class.{Class}
use Rattle.program_model.specs.declared.program.Program.{Program}
use Rattle.dex_pools.specs.Spelled.{IsTypeList, AreParameters}
use Rattle.dex_defs.specs.ClassDefs.{Def, none}
use Rattle.dex_defs.specs.Places.{HasDef, Leads}
use Rattle.dex_defs.specs.Faults.{HasTypeText, HasLetter}
use Rattle.dex_defs.specs.ClassFaults.{has_bit, IsPlainType}
use Rattle.dex_defs.specs.Spells.{Spells}
use Rattle.dex_read.specs.declared.class_defs.ClassDef.{ClassDef}
use Rattle.dex_read.specs.declared.fault.DexFault.{DexFault}
use Rattle.dex_read.specs.declared.fault.DexFault.TheVariants.{Root}
use Rattle.dex_read.specs.declared.members.Budget.{Budget}
use Rattle.dex_read.specs.Classes.{is_class_type, root_at}
use Rattle.dex_read.specs.File.{classes_at}
use Rattle.file_laws.proofs.Classes.{founds_interfaces}
use Rattle.refused_law.proofs.Defs.{half_there}
use Rattle.spelled_law.proofs.Once.{once_16, once_32}
use Rattle.clean_files.proofs.Tables as tables
use Rattle.clean_files.proofs.Tables.{led}
use Rattle.clean_files.proofs.Classes.{ClassRead, class_of}

-- ---- what was tested

abbrev passed : Result (Unit {0}) DexFault
passed = Ok tt

tested : (b : Bool) (e : DexFault) → cond b passed (Err e) ≡ passed → b ≡ true
tested true e h = refl
tested false e h = absurd cc

record IsRooted (q : Program) (d : ClassDef) (interfaces : List ℕ) : Type 0 where
  some : not (eqb d.superclass none) ≡ true
  no_object : not (is_object (type_text q d.class)) ≡ true
  own : is_class_type q d.class ≡ true
  above : is_class_type q d.superclass ≡ true
  all : list_all (is_class_type q) interfaces ≡ true

rooted : (q : Program) (d : ClassDef) (interfaces : List ℕ) (place : ℕ) → root_at q d interfaces place ≡ Ok tt → IsRooted q d interfaces
unfolding root_at
rooted q d interfaces place h =
    let a = and_parts _ _ (tested (not (eqb d.superclass none) && (not (is_object (type_text q d.class)) && (is_class_type q d.class && (is_class_type q d.superclass && list_all (is_class_type q) interfaces)))) (Root place) h) in
    let b = and_parts _ _ a.1 in
    let c = and_parts _ _ b.1 in
    let e = and_parts _ _ c.1 in
    record { some = a.0; no_object = b.0; own = c.0; above = e.0; all = e.1 }

module _ (bytes : List ℕ) (q : Program) (left : Budget) (cs : List Class) (filled : classes_at bytes q left ≡ Ok cs) (s : Spells bytes (record q { classes = cs })) where
  abbrev p : Program
  p = record q { classes = cs }

  record RootRead (class : ℕ) (def : Def) : Type 0 where
    c : ClassRead bytes q cs class def
    is : IsRooted q c.read.def c.read.interfaces.0
    name : c.read.def.class ≡ def.name
    superclass : c.read.def.superclass ≡ def.superclass
    interfaces : c.read.def.interfaces ≡ def.interfaces

  root_read : (class : ℕ) (def : Def) → HasDef bytes class def → RootRead class def
  root_read class def has =
      let c = class_of bytes q left cs filled s class def has in
      record {
        c = c;
        is = rooted q c.read.def c.read.interfaces.0 class c.read.root_is;
        name = ap (λ (d : Def). d.name) c.own;
        superclass = ap (λ (d : Def). d.superclass) c.own;
        interfaces = ap (λ (d : Def). d.interfaces) c.own;
      }

  same_text : (kind : ℕ) → type_text p kind ≡ type_text q kind
  unfolding type_text
  same_text kind = refl

  same_letter : (kind : ℕ) → letter_of p kind ≡ letter_of q kind
  unfolding letter_of type_text
  same_letter kind = refl

  -- a class type has the letter L
  letter_76 : (kind letter : ℕ) → HasLetter bytes kind letter → is_class_type q kind ≡ true → letter ≡ 76
  letter_76 kind letter h e = sym (sym (same_letter kind) ∙ tables.first_letter bytes p s kind letter h) ∙ eqb-true (letter_of q kind) 76 e

  pub not_object : (class begin : ℕ) (def : Def) → HasDef bytes class def → HasTypeText bytes def.name (codes "Ljava/lang/Object;") begin → ⊥
  not_object class begin def has text =
      let r = root_read class def has in
      let is : type_text q r.c.read.def.class ≡ codes "Ljava/lang/Object;" = ap (type_text q) r.name ∙ sym (same_text def.name) ∙ tables.descriptor_read bytes p s def.name (codes "Ljava/lang/Object;") (tables.type_read bytes p s def.name begin (codes "Ljava/lang/Object;") text) in
      clash (is_object (type_text q r.c.read.def.class)) ((bytes_decides (type_text q r.c.read.def.class) (codes "Ljava/lang/Object;")).1 is) (not_true (is_object (type_text q r.c.read.def.class)) r.is.no_object)

  pub has_superclass : (class : ℕ) (def : Def) → HasDef bytes class def → def.superclass ≡ none → ⊥
  has_superclass class def has is =
      let r = root_read class def has in
      clash (eqb r.c.read.def.superclass none) (eq-eqb r.c.read.def.superclass none (r.superclass ∙ is)) (not_true (eqb r.c.read.def.superclass none) r.is.some)

  pub own_type : (class letter : ℕ) (def : Def) → HasDef bytes class def → HasLetter bytes def.name letter → letter ≡ 76
  own_type class letter def has h = let r = root_read class def has in letter_76 def.name letter h (subst (λ n. is_class_type q n ≡ true) r.name r.is.own)

  pub above_type : (class letter : ℕ) (def : Def) → HasDef bytes class def → HasLetter bytes def.superclass letter → letter ≡ 76
  above_type class letter def has h = let r = root_read class def has in letter_76 def.superclass letter h (subst (λ n. is_class_type q n ≡ true) r.superclass r.is.above)

  -- one of the interfaces
  listed_kind : (size at i kind count : ℕ) (types : List ℕ) → IsTypeList bytes at size types → Is32 bytes at count → i < count → Is16 bytes (at + 4 + 2 * i) kind → slice_get types i ≡ Some kind
  listed_kind size at i kind count types h is less is_kind =
      let same : length types ≡ count = once_32 bytes at (length types) count h.count is in
      let x = get_there types i (omega (arith, less, same)) in
      let half = half_there bytes (at + 4) size types i x.0 h.entries.1 x.1 in
      subst (λ n. slice_get types i ≡ Some n) (once_16 bytes (at + 4 + 2 * i) x.0 kind half.is is_kind) x.1

  pub interface_type : (class letter at i kind count : ℕ) (def : Def) → HasDef bytes class def → Leads def.interfaces at → Is32 bytes at count → i < count → Is16 bytes (at + 4 + 2 * i) kind → HasLetter bytes kind letter → letter ≡ 76
  interface_type class letter at i kind count def has leads is less is_kind h =
      let r = root_read class def has in
      let are = (founds_interfaces bytes q r.c.read.def.interfaces r.c.left.items).found r.c.read.interfaces r.c.read.interfaces_are in
      let list = led bytes (length q.types) def.interfaces at r.c.read.interfaces.0 leads (subst (λ n. AreParameters bytes (length q.types) n r.c.read.interfaces.0) r.interfaces are) in
      let there = listed_kind (length q.types) at i kind count r.c.read.interfaces.0 list is less is_kind in
      letter_76 kind letter h (all_at (is_class_type q) r.c.read.interfaces.0 i kind r.is.all there)

  -- ---- what interfaces stand on

  module _ (free : interfaces_stand_free (record q { classes = cs }) ≡ true) where
    each_free : list_all (stands_free p) cs ≡ true
    unfolding interfaces_stand_free
    each_free = free

    plain_is : (kind : ℕ) → IsPlainType bytes kind → defines_plain p kind ≡ true
    plain_is kind h =
        let c = class_of bytes q left cs filled s h.class h.def h.has in
        let name : c.c.name ≡ kind = c.is.name ∙ ap (λ (d : Def). d.name) c.same ∙ h.defines in
        let flags : c.c.flags.0 ≡ h.def.flags = c.is.flags ∙ ap (λ (d : Def). d.flags) c.same in
        let plain : is_plain_class c.c ≡ true = ap (λ n. not (has_bit n 512)) flags ∙ ap not h.plain in
        any_at (defines_so kind) cs h.class c.c c.there (and_both (eqb c.c.name kind) (is_plain_class c.c) (eq-eqb c.c.name kind name) plain)

    record InterfaceRead (class : ℕ) (def : Def) : Type 0 where
      c : ClassRead bytes q cs class def
      superclass : defines_plain p def.superclass ≡ false
      all : list_all (λ kind. not (defines_plain p kind)) c.c.interfaces ≡ true

    or_second : (a b : Bool) → (a || b) ≡ true → a ≡ false → b ≡ true
    or_second true b h e = absurd cc
    or_second false b h e = h

    interface_read : (class : ℕ) (def : Def) → HasDef bytes class def → has_bit def.flags 512 ≡ true → InterfaceRead class def
    interface_read class def has is =
        let c = class_of bytes q left cs filled s class def has in
        let flags : c.c.flags.0 ≡ def.flags = c.is.flags ∙ ap (λ (d : Def). d.flags) c.same in
        let not_plain : is_plain_class c.c ≡ false = ap (λ n. not (has_bit n 512)) flags ∙ ap not is in
        let free = all_at (stands_free p) cs class c.c each_free c.there in
        let both = and_parts _ _ (or_second (is_plain_class c.c) (not (defines_plain p c.c.superclass) && list_all (λ kind. not (defines_plain p kind)) c.c.interfaces) free not_plain) in
        let name : c.c.superclass ≡ def.superclass = c.is.superclass ∙ ap (λ (d : Def). d.superclass) c.same in
        record { c = c; superclass = ap (defines_plain p) (sym name) ∙ not_true (defines_plain p c.c.superclass) both.0; all = both.1 }

    pub not_on_plain : (class : ℕ) (def : Def) → HasDef bytes class def → has_bit def.flags 512 ≡ true → IsPlainType bytes def.superclass → ⊥
    not_on_plain class def has is plain = clash (defines_plain p def.superclass) (plain_is def.superclass plain) (interface_read class def has is).superclass

    pub no_plain_listed : (class at i kind count : ℕ) (def : Def) → HasDef bytes class def → has_bit def.flags 512 ≡ true → Leads def.interfaces at → Is32 bytes at count → i < count → Is16 bytes (at + 4 + 2 * i) kind → IsPlainType bytes kind → ⊥
    no_plain_listed class at i kind count def has is leads is_count less is_kind plain =
        let r = interface_read class def has is in
        let are : AreParameters bytes (length q.types) def.interfaces r.c.c.interfaces = subst (λ (d : Def). AreParameters bytes (length q.types) d.interfaces r.c.c.interfaces) r.c.same r.c.is.interfaces in
        let list = led bytes (length q.types) def.interfaces at r.c.c.interfaces leads are in
        let there = listed_kind (length q.types) at i kind count r.c.c.interfaces list is_count less is_kind in
        clash (defines_plain p kind) (plain_is kind plain) (not_true (defines_plain p kind) (all_at (λ kind. not (defines_plain p kind)) r.c.c.interfaces i kind r.all there))
