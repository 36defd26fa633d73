-- At each position that a walk comes to a typing has a state, and live registers of one name are one there.
use Rattle.std.proofs.Common.{◌≡◌, ℕ, ◌+◌, ◌-◌, Bool, true, false, List, [], ◌∷◌, length, Option, Some, None, refl, sym, ◌∙◌, inl, inr}
use Rattle.std.specs.Prelude.{◌&&◌, map, if◌then◌else◌}
use Rattle.std.specs.List.{list_all}
use Rattle.lemmas.proofs.Lists.{got_short}
use Rattle.dalvik_defs.specs.declared.forms.Form.{Form}
use Rattle.dalvik_defs.specs.declared.program.NamedBody.{NamedBody}
use Rattle.dalvik_defs.specs.declared.program.NamedClass.{NamedClass}
use Rattle.dalvik_defs.specs.declared.program.NamedMethod.{NamedMethod}
use Rattle.dalvik_defs.specs.declared.program.NamedRegion.{NamedRegion}
use Rattle.dalvik_defs.specs.declared.program.NamedHandler.{NamedHandler}
use Rattle.dalvik_defs.specs.declared.program.NamedProgram.{NamedProgram}
use Rattle.pass_defs.specs.Bare.{reads, writes, may_throw}
use Rattle.pass_defs.specs.Walks.{form_at, region_at, listed, handlers_of, handlers_at, onward, caught, IsReadAt}
use Rattle.pass_defs.specs.Kinds.{Kind, Reference, is_below, kind_of}
use Rattle.pass_defs.specs.Registers.{Kinds, kind_at, all_below, kinds_below, state_below}
use Rattle.pass_defs.specs.Typed.{after, catch_all, catches_in, catches, edges, Table, state_at, at_state, arrives, IsTyping}
use Rattle.pass_defs.specs.Packed.{First, Both}
use Rattle.pass_defs.proofs.Writes.{both_true}
use Rattle.form_laws.specs.Changes.{In, here, there}
use Rattle.form_laws.proofs.Onward.{clash, contained, in_front, in_back}
use Rattle.form_laws.specs.TypedRegisters.{IsTypedRenamed}
use Rattle.form_laws.proofs.Held.{is_known}
use Rattle.form_laws.proofs.Selecting.{Unique, each_below, as_long}
use Rattle.form_laws.proofs.Sequences.{split_in, in_map, all_in}
use Rattle.form_laws.proofs.Typings.{each_at, tested, allowed_at, right_at}
use Rattle.form_laws.proofs.Held.{known_above}
use Rattle.form_laws.proofs.Knowing.{after_known}

-- ---- handlers

-- where an object of some kind is caught
catches_at : (p : NamedProgram) (n : ℕ) (o : Option NamedRegion) → In n (handlers_of o) → (k : Kind) × In {A = ℕ × Kind} (n, k) (catches_in p o)
catches_at p n None i = elim i [ ]
catches_at p n (Some r) i = elim (split_in n (map (λ (h : NamedHandler). h.position) r.handlers) (listed r.rest) i) [
  | inl j ↦ let h = handler r.handlers j in (h.0, in_front (n, h.0) (map (λ (h : NamedHandler). (h.position, kind_of p h.kind)) r.handlers) (catch_all r.rest) h.1)
  | inr j ↦ let h = rest r.rest j in (h.0, in_back (n, h.0) (map (λ (h : NamedHandler). (h.position, kind_of p h.kind)) r.handlers) (catch_all r.rest) h.1)
]
  where
    handler : (hs : List NamedHandler) → In n (map (λ (h : NamedHandler). h.position) hs) → (k : Kind) × In {A = ℕ × Kind} (n, k) (map (λ (h : NamedHandler). (h.position, kind_of p h.kind)) hs)
    handler [] i = elim i [ ]
    handler (h ∷ hs) (here xs) = (kind_of p h.kind, here (map (λ (h : NamedHandler). (h.position, kind_of p h.kind)) hs))
    handler (h ∷ hs) (there x xs i) = let r = handler hs i in (r.0, there (h.position, kind_of p h.kind) (map (λ (h : NamedHandler). (h.position, kind_of p h.kind)) hs) r.1)

    rest : (o : Option ℕ) → In n (listed o) → (k : Kind) × In {A = ℕ × Kind} (n, k) (catch_all o)
    rest None i = elim i [ ]
    rest (Some x) (here xs) = (Reference, here [])
    rest (Some x) (there y xs i) = elim i [ ]

module _ (p : NamedProgram) (c : NamedClass) (m : NamedMethod) (b : NamedBody) (t : Table) (typing : IsTyping p c m b t) where
  module _ (n : ℕ) (f : Form) (a : Kinds) (x : form_at b n ≡ Some f) (y : state_at t n ≡ Some a) where
    edges_at : list_all (arrives p t) (edges p c b n f a) ≡ true
    edges_at = tested p c m b t typing n f a x y (λ f a. list_all (arrives p t) (edges p c b n f a)) (each_at (length b.forms) (λ n. at_state b t (λ f a. list_all (arrives p t) (edges p c b n f a)) n) n (got_short b.forms n f x) typing.edges)

    -- where an edge arrives
    Arrival : ℕ → Kinds → Type 0
    Arrival q k = (l : Kinds) × ((state_at t q ≡ Some l) × (kinds_below p k l ≡ true))

    arrived : (q : ℕ) (k : Kinds) → arrives p t (q, k) ≡ true → Arrival q k
    unfolding Arrival
    arrived q k e = by (state_at t q) refl e
      where
        by : (o : Option Kinds) → state_at t q ≡ o → state_below p (Some k) o ≡ true → (l : Kinds) × ((state_at t q ≡ Some l) × (kinds_below p k l ≡ true))
        by None i e = clash false e refl
        by (Some l) i e = (l, (i, e))

    pub onward_arrives : (q : ℕ) → In q (onward f n) → (l : Kinds) × ((state_at t q ≡ Some l) × (kinds_below p (after p c n f a) l ≡ true))
    unfolding Arrival
    onward_arrives q i = arrived q (after p c n f a) (all_in (arrives p t) (edges p c b n f a) (q, after p c n f a) edges_at
        (in_front (q, after p c n f a) (map (λ q. (q, after p c n f a)) (onward f n)) (map (λ h. (h.0, record a { caught = h.1 })) (catches p b n f)) (in_map (λ q. (q, after p c n f a)) q (onward f n) i)))

    pub catch_arrives : (q : ℕ) (k : Kind) → In {A = ℕ × Kind} (q, k) (catches p b n f) → (l : Kinds) × ((state_at t q ≡ Some l) × (kinds_below p (record a { caught = k }) l ≡ true))
    unfolding Arrival
    catch_arrives q k i = arrived q (record a { caught = k }) (all_in (arrives p t) (edges p c b n f a) (q, record a { caught = k }) edges_at
        (in_back (q, record a { caught = k }) (map (λ q. (q, after p c n f a)) (onward f n)) (map (λ h. (h.0, record a { caught = h.1 })) (catches p b n f)) (in_map (λ h. (h.0, record a { caught = h.1 })) (q, k) (catches p b n f) i)))

    pub caught_catches : (q : ℕ) → In q (caught b f n) → (k : Kind) × In {A = ℕ × Kind} (q, k) (catches p b n f)
    caught_catches q i = by (may_throw f) i
      where
        by : (v : Bool) → In q (elim v as (λ v. List ℕ) [ true ↦ handlers_at b n | false ↦ [] ]) → (k : Kind) × In {A = ℕ × Kind} (q, k) (if v then catches_in p (region_at b n) else [])
        by true i = catches_at p q (region_at b n) i
        by false i = elim i [ ]

pub first_below : (p : NamedProgram) (k l : Kinds) → kinds_below p k l ≡ true → all_below p k.registers l.registers ≡ true
first_below p k l e = three (all_below p k.registers l.registers) (is_below p k.result l.result) (is_below p k.caught l.caught) (is_below p k.receiver l.receiver) e
  where
    three : (w x y z : Bool) → (w && x && y && z) ≡ true → w ≡ true
    three true x y z e = refl
    three false x y z e = clash false e refl

-- ---- walks

module _ (p : NamedProgram) (c : NamedClass) (m : NamedMethod) (b d : NamedBody) (h : IsTypedRenamed p c m b d) where
  abbrev t : Table
  t = h.table

  abbrev new : ℕ → ℕ
  new = h.new

  abbrev live : ℕ → ℕ → Bool
  live = h.marks.live

  -- what is known at a position that is reached
  pub record At (n : ℕ) (a : Kinds) : Type 0 where
    pub long : length a.registers ≡ (b.registers - b.ins) + b.ins
    pub unique : Unique new (live n) a.registers

  -- live behind a position, and live at it
  pub live_onward : (n q o : ℕ) (f : Form) → form_at b n ≡ Some f → In q (onward f n) → writes f o ≡ false → live q o ≡ true → live n o ≡ true
  live_onward n q o f x i w l = let r = (h.marks.is_live q o).0 l in (h.marks.is_live n o).1 (r.0, IsReadAt.Onward n q r.0 f x w (contained q (onward f n) i) r.1)

  pub live_caught : (n q o : ℕ) (f : Form) → form_at b n ≡ Some f → In q (caught b f n) → live q o ≡ true → live n o ≡ true
  live_caught n q o f x i l = let r = (h.marks.is_live q o).0 l in (h.marks.is_live n o).1 (r.0, IsReadAt.Caught n q r.0 f x (contained q (caught b f n) i) r.1)

  pub live_read : (n o : ℕ) (f : Form) → form_at b n ≡ Some f → reads f o ≡ true → live n o ≡ true
  live_read n o f x r = (h.marks.is_live n o).1 (n, IsReadAt.Here n f x r)

  -- what is written has another name than what is read later
  pub names_apart : (n q o r : ℕ) (f : Form) → form_at b n ≡ Some f → In q (onward f n) → writes f r ≡ true → live q o ≡ true → new r ≡ new o → r ≡ o
  names_apart n q o r f x i w l e = h.renamed.apart r o (First (record { position = n; form = f; next = q; has_form = x; writes_it = w; goes = contained q (onward f n) i; read = (h.marks.is_live q o).0 l })) e

  module _ (n : ℕ) (f : Form) (a : Kinds) (x : form_at b n ≡ Some f) (y : state_at t n ≡ Some a) (at : At n a) where
    pub goes_on : length (after p c n f a).registers ≡ length a.registers → (q : ℕ) (l : Kinds) → In q (onward f n) → kinds_below p (after p c n f a) l ≡ true → At q l
    goes_on long q l i below = record {
      long = as_long p (after p c n f a).registers l.registers (first_below p (after p c n f a) l below) ∙ long ∙ at.long;
      unique = λ o r lo lr ko kr e. by o r lo lr ko kr e (writes f o) (writes f r) refl refl;
    }
      where
        was : (o : ℕ) → writes f o ≡ false → is_known (kind_at l.registers o) ≡ true → is_known (kind_at a.registers o) ≡ true
        was o w k = after_known p c n a o m f (allowed_at p c m b t h.typing n f a x y) (right_at p c m b t h.typing n f a x y) w
            (known_above p (kind_at (after p c n f a).registers o) (kind_at l.registers o) (each_below p (after p c n f a).registers l.registers o (first_below p (after p c n f a) l below)) k)

        by : (o r : ℕ) → live q o ≡ true → live q r ≡ true → is_known (kind_at l.registers o) ≡ true → is_known (kind_at l.registers r) ≡ true → new o ≡ new r → (u v : Bool) → writes f o ≡ u → writes f r ≡ v → o ≡ r
        by o r lo lr ko kr e true true u v = h.renamed.apart o r (Both n f x (both_true (writes f o) (writes f r) u v)) e
        by o r lo lr ko kr e true false u v = names_apart n q r o f x i u lr e
        by o r lo lr ko kr e false true u v = sym (names_apart n q o r f x i v lo (sym e))
        by o r lo lr ko kr e false false u v = at.unique o r (live_onward n q o f x i u lo) (live_onward n q r f x i v lr) (was o u ko) (was r v kr) e

    pub goes_caught : (q : ℕ) (l : Kinds) (k : Kind) → In q (caught b f n) → kinds_below p (record a { caught = k }) l ≡ true → At q l
    goes_caught q l k i below = record {
      long = as_long p a.registers l.registers (first_below p (record a { caught = k }) l below) ∙ at.long;
      unique = λ o r lo lr ko kr e. at.unique o r (live_caught n q o f x i lo) (live_caught n q r f x i lr) (was o ko) (was r kr) e;
    }
      where
        was : (o : ℕ) → is_known (kind_at l.registers o) ≡ true → is_known (kind_at a.registers o) ≡ true
        was o k1 = known_above p (kind_at a.registers o) (kind_at l.registers o) (each_below p a.registers l.registers o (first_below p (record a { caught = k }) l below)) k1

-- what catches an object is a handler
pub catch_caught : (p : NamedProgram) (b : NamedBody) (n : ℕ) (f : Form) (q : ℕ) (k : Kind) → In {A = ℕ × Kind} (q, k) (catches p b n f) → In q (caught b f n)
catch_caught p b n f q k i = by (may_throw f) i
  where
    handler : (x : ℕ × Kind) (hs : List NamedHandler) → In x (map (λ (h : NamedHandler). (h.position, kind_of p h.kind)) hs) → In x.0 (map (λ (h : NamedHandler). h.position) hs)
    handler x [] i = elim i [ ]
    handler x (h ∷ hs) (here xs) = here (map (λ (h : NamedHandler). h.position) hs)
    handler x (h ∷ hs) (there y xs i) = there h.position (map (λ (h : NamedHandler). h.position) hs) (handler x hs i)

    rest : (x : ℕ × Kind) (o : Option ℕ) → In x (catch_all o) → In x.0 (listed o)
    rest x None i = elim i [ ]
    rest x (Some y) (here xs) = here []
    rest x (Some y) (there z xs i) = elim i [ ]

    region : (o : Option NamedRegion) → In {A = ℕ × Kind} (q, k) (catches_in p o) → In q (handlers_of o)
    region None i = elim i [ ]
    region (Some r) i = elim (split_in {A = ℕ × Kind} (q, k) (map (λ (h : NamedHandler). (h.position, kind_of p h.kind)) r.handlers) (catch_all r.rest) i) [
      | inl j ↦ in_front q (map (λ (h : NamedHandler). h.position) r.handlers) (listed r.rest) (handler (q, k) r.handlers j)
      | inr j ↦ in_back q (map (λ (h : NamedHandler). h.position) r.handlers) (listed r.rest) (rest (q, k) r.rest j)
    ]

    by : (v : Bool) → In {A = ℕ × Kind} (q, k) (if v then catches_in p (region_at b n) else []) → In q (elim v as (λ v. List ℕ) [ true ↦ handlers_at b n | false ↦ [] ])
    by true i = region (region_at b n) i
    by false i = elim i [ ]
