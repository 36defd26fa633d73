-- What a well-formed program is made of, and which changes of classes leave the interfaces standing free.
use Rattle.std.proofs.Common.{◌≡◌, ℕ, Bool, true, false, true≢false, List, [], ◌∷◌, refl, sym, ap, ◌∙◌}
use Rattle.std.specs.Prelude.{◌&&◌, ◌||◌, not, cond, nat_le, map, filter}
use Rattle.std.specs.List.{list_all, list_any}
use Rattle.std.proofs.lemmas.Bool.{and_parts, and_from}
use Rattle.program_model.specs.declared.program.Class.{Class}
use Rattle.program_model.specs.declared.program.Program.{Program}
use Rattle.program_model.specs.Cells.{cells_of}
use Rattle.program_model.specs.Items.{items_of}
use Rattle.program_model.specs.TableRules.{tables_fit}
use Rattle.program_model.specs.MemberRules.{class_fits}
use Rattle.program_model.specs.InterfaceRules.{is_plain_class, defines_so, defines_plain, stands_free, interfaces_stand_free}
use Rattle.program_model.specs.ProgramRules.{is_well_formed}

-- ---- the rules of a program

pub record Formed (p : Program) : Type 0 where
  pub tables : tables_fit p ≡ true
  pub cells : nat_le (cells_of p) 67108864 ≡ true
  pub items : nat_le (items_of p) 16777216 ≡ true
  pub stands : interfaces_stand_free p ≡ true
  pub classes : list_all (class_fits p) p.classes ≡ true

pub formed : (p : Program) → is_well_formed p ≡ true → Formed p
unfolding is_well_formed
formed p h =
    let all = and_parts (tables_fit p) ((nat_le (cells_of p) 67108864 && (nat_le (items_of p) 16777216 && interfaces_stand_free p)) && list_all (class_fits p) p.classes) h in
    let more = and_parts (nat_le (cells_of p) 67108864 && (nat_le (items_of p) 16777216 && interfaces_stand_free p)) (list_all (class_fits p) p.classes) all.1 in
    let counts = and_parts (nat_le (cells_of p) 67108864) (nat_le (items_of p) 16777216 && interfaces_stand_free p) more.0 in
    let rest = and_parts (nat_le (items_of p) 16777216) (interfaces_stand_free p) counts.1 in
    record { tables = all.0; cells = counts.0; items = rest.0; stands = rest.1; classes = more.1 }

pub well_formed : (p : Program) → Formed p → is_well_formed p ≡ true
unfolding is_well_formed
well_formed p f =
    and_from (tables_fit p) ((nat_le (cells_of p) 67108864 && (nat_le (items_of p) 16777216 && interfaces_stand_free p)) && list_all (class_fits p) p.classes) f.tables
    (and_from (nat_le (cells_of p) 67108864 && (nat_le (items_of p) 16777216 && interfaces_stand_free p)) (list_all (class_fits p) p.classes)
    (and_from (nat_le (cells_of p) 67108864) (nat_le (items_of p) 16777216 && interfaces_stand_free p) f.cells
    (and_from (nat_le (items_of p) 16777216) (interfaces_stand_free p) f.items f.stands))
    f.classes)

-- ---- classes with other members, and some left out

-- all of a class that the rule of interfaces reads
pub record SameHead (c d : Class) : Type 0 where
  pub name : d.name ≡ c.name
  pub flags : d.flags ≡ c.flags
  pub superclass : d.superclass ≡ c.superclass
  pub interfaces : d.interfaces ≡ c.interfaces

-- the second list has classes of the first in their order, each with members of its own
pub data Drawn : List Class → List Class → Type 0 where
  Ended : Drawn [] []
  Kept : (c d : Class) (cs ds : List Class) → SameHead c d → Drawn cs ds → Drawn (c ∷ cs) (d ∷ ds)
  Left : (c : Class) (cs ds : List Class) → Drawn cs ds → Drawn (c ∷ cs) ds

pub drawn_all : (f : Class → Class) → ((c : Class) → SameHead c (f c)) → (cs : List Class) → Drawn cs (map f cs)
drawn_all f h [] = Ended
drawn_all f h (c ∷ cs) = Kept c (f c) cs (map f cs) (h c) (drawn_all f h cs)

pub drawn_left : (t : Class → Bool) (f : Class → Class) → ((c : Class) → SameHead c (f c)) → (cs : List Class) → Drawn cs (map f (filter t cs))
drawn_left t f h [] = Ended
drawn_left t f h (c ∷ cs) = by (t c) (drawn_left t f h cs)
  where
    by : (b : Bool) → Drawn cs (map f (filter t cs)) → Drawn (c ∷ cs) (map f (cond b (c ∷ filter t cs) (filter t cs)))
    by true r = Kept c (f c) cs (map f (filter t cs)) (h c) r
    by false r = Left c cs (map f (filter t cs)) r

neither : (a b : Bool) → (a || b) ≡ false → (a ≡ false) × (b ≡ false)
neither false b e = (refl, e)
neither true b e = absurd (true≢false e)

both_false : (a b : Bool) → a ≡ false → b ≡ false → (a || b) ≡ false
both_false a b e k = ap (λ x. x || b) e ∙ k

defines_same : (kind : ℕ) (c d : Class) → SameHead c d → defines_so kind d ≡ defines_so kind c
defines_same kind c d h = rw (h.name, h.flags) refl

-- what no class of the first list defines, none of the second does
defines_falls : (kind : ℕ) (cs ds : List Class) → Drawn cs ds → list_any (defines_so kind) cs ≡ false → list_any (defines_so kind) ds ≡ false
defines_falls kind _ _ Ended e = e
defines_falls kind _ _ (Kept c d cs ds h r) e =
    let parts = neither (defines_so kind c) (list_any (defines_so kind) cs) e in
    both_false (defines_so kind d) (list_any (defines_so kind) ds) (defines_same kind c d h ∙ parts.0) (defines_falls kind cs ds r parts.1)
defines_falls kind _ _ (Left c cs ds r) e = defines_falls kind cs ds r (neither (defines_so kind c) (list_any (defines_so kind) cs) e).1

denied : (a b : Bool) → (a ≡ false → b ≡ false) → not a ≡ true → not b ≡ true
denied true b h e = absurd (true≢false (sym e))
denied false b h e = ap not (h refl)

or_more : (a b c : Bool) → (b ≡ true → c ≡ true) → (a || b) ≡ true → (a || c) ≡ true
or_more true b c h e = refl
or_more false b c h e = h e

module _ (p q : Program) (fewer : (kind : ℕ) → defines_plain p kind ≡ false → defines_plain q kind ≡ false) where
  none_more : (kinds : List ℕ) → list_all (λ kind. not (defines_plain p kind)) kinds ≡ true → list_all (λ kind. not (defines_plain q kind)) kinds ≡ true
  none_more [] e = refl
  none_more (k ∷ ks) e =
      let parts = and_parts (not (defines_plain p k)) (list_all (λ kind. not (defines_plain p kind)) ks) e in
      and_from (not (defines_plain q k)) (list_all (λ kind. not (defines_plain q kind)) ks) (denied (defines_plain p k) (defines_plain q k) (fewer k) parts.0) (none_more ks parts.1)

  stands_in : (c : Class) → stands_free p c ≡ true → stands_free q c ≡ true
  stands_in c = or_more (is_plain_class c) (not (defines_plain p c.superclass) && list_all (λ kind. not (defines_plain p kind)) c.interfaces)
      (not (defines_plain q c.superclass) && list_all (λ kind. not (defines_plain q kind)) c.interfaces)
      (λ e.
      let parts = and_parts (not (defines_plain p c.superclass)) (list_all (λ kind. not (defines_plain p kind)) c.interfaces) e in
      and_from (not (defines_plain q c.superclass)) (list_all (λ kind. not (defines_plain q kind)) c.interfaces)
      (denied (defines_plain p c.superclass) (defines_plain q c.superclass) (fewer c.superclass) parts.0) (none_more c.interfaces parts.1))

  stands_same : (c d : Class) → SameHead c d → stands_free q d ≡ stands_free q c
  stands_same c d h = rw (h.flags, h.superclass, h.interfaces) refl

  all_stand : (cs ds : List Class) → Drawn cs ds → list_all (stands_free p) cs ≡ true → list_all (stands_free q) ds ≡ true
  all_stand _ _ Ended e = refl
  all_stand _ _ (Kept c d cs ds h r) e =
      let parts = and_parts (stands_free p c) (list_all (stands_free p) cs) e in
      and_from (stands_free q d) (list_all (stands_free q) ds) (stands_same c d h ∙ stands_in c parts.0) (all_stand cs ds r parts.1)
  all_stand _ _ (Left c cs ds r) e = all_stand cs ds r (and_parts (stands_free p c) (list_all (stands_free p) cs) e).1

-- where classes are left out, and others get other members, the interfaces still stand free
pub stand_kept : (p q : Program) → Drawn p.classes q.classes → interfaces_stand_free p ≡ true → interfaces_stand_free q ≡ true
unfolding interfaces_stand_free
stand_kept p q r e = all_stand p q (λ kind. defines_falls kind p.classes q.classes r) p.classes q.classes r e
