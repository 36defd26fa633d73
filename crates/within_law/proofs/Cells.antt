-- The code of a file has no more cells than the program that the file spells.
use Rattle.std.proofs.Common.{◌≡◌, ◌≤◌, ◌<◌, ◌⊎◌, inl, inr, ℕ, zero, suc, ◌+◌, ◌*◌, List, [], ◌∷◌, length, Option, Some, None, refl, sym, ap, subst, ◌∙◌, arith}
use Rattle.std.specs.Prelude.{slice_get, sum_by}
use Rattle.std.proofs.lemmas.List.Sums.{sum_by-append}
use Rattle.lemmas.proofs.Lists.{got_short, get_there}
use Rattle.lemmas.proofs.Options.{some_same}
use Rattle.insn_set.specs.declared.form.Insn.{Insn}
use Rattle.program_model.specs.Cells.{entries_of, body_cells, method_cells, class_cells, cells_of}
use Rattle.program_model.specs.declared.body.Body.{Body}
use Rattle.program_model.specs.declared.program.Class.{Class}
use Rattle.program_model.specs.declared.program.Method.{Method}
use Rattle.program_model.specs.declared.program.Program.{Program}
use Rattle.dex_defs.specs.Sweep.{Piece, IsSwept, instructions, places_of}
use Rattle.dex_defs.specs.Instructions.{AreInsns}
use Rattle.dex_defs.specs.ClassData.{Entry, Lists, IsClassDataOf}
use Rattle.dex_defs.specs.ClassDefs.{Def, HasCode, IsCodeOf, IsMethod, AreMethods, IsClass}
use Rattle.dex_defs.specs.CodeItems.{Frame}
use Rattle.dex_defs.specs.CodeFaults.{HasUnits}
use Rattle.dex_defs.specs.Limits.{IsMethodCode, HasEntries, IsCell}
use Rattle.dex_defs.specs.Limits as limits
use Rattle.dex_defs.specs.Places.{HasDef, HasEntry, Leads}
use Rattle.dex_defs.specs.Annotations.{Directory}
use Rattle.dex_pools.specs.declared.scalar.TableSizes.{TableSizes}
use Rattle.dex_defs.specs.Spells.{Spells, sizes_in}
use Rattle.refused_law.proofs.Failing.{each_at}
use Rattle.refused_law.proofs.OnceEntries.{list_of, listed_once}
use Rattle.refused_law.proofs.Tables.{entry_at}
use Rattle.clean_files.proofs.Classes.{one_def}
use Rattle.clean_files.proofs.CodeInsns.{insn_there}
use Rattle.clean_files.proofs.CodeItems.{frame_once, units_once}
use Rattle.clean_files.proofs.CodeSweep.{swept_once}
use Rattle.clean_files.proofs.Tables.{entry_is}
use Rattle.within_law.proofs.Most.{Most, fewer, none, together, IsNumbered, numbered}
use Rattle.within_law.proofs.Rows.{OneOf, summed, rows}
use Rattle.within_law.proofs.CodeTables.{as_many}

-- ---- names

-- a cell of a position, or of a table's entry
data IsOf (f : Frame) (units : List ℕ) (pieces : List Piece) (kind position i : ℕ) : Type 0 where
  Position : kind ≡ 0 → position < length (instructions pieces) → i ≤ f.registers → IsOf f units pieces kind position i
  Table : (count : ℕ) → kind ≡ 1 → HasEntries units pieces position count → i < count → IsOf f units pieces kind position i

-- a cell of the code of this method
record InMethod (bytes : List ℕ) (class which place : ℕ) (w : List ℕ) : Type 0 where
  at : ℕ
  f : Frame
  pieces : List Piece
  code : IsMethodCode bytes class which place at f pieces
  kind : ℕ
  position : ℕ
  i : ℕ
  of : IsOf f code.units pieces kind position i
  is : w ≡ class ∷ which ∷ place ∷ kind ∷ position ∷ i ∷ []

record InList (bytes : List ℕ) (class which : ℕ) (w : List ℕ) : Type 0 where
  place : ℕ
  within : InMethod bytes class which place w

record InClass (bytes : List ℕ) (class : ℕ) (w : List ℕ) : Type 0 where
  which : ℕ
  within : InList bytes class which w

cell_in : (bytes : List ℕ) (w : List ℕ) → IsCell bytes w → (class : ℕ) × InClass bytes class w
cell_in bytes w (limits.OfPosition class which place at position register f pieces code less low) = (
  class,
  record {
    which = which;
    within = record {
      place = place;
      within = record {
        at = at;
        f = f;
        pieces = pieces;
        code = code;
        kind = 0;
        position = position;
        i = register;
        of = Position refl less low;
        is = refl;
      };
    };
  },
)
cell_in bytes w (limits.OfTable class which place at position count i f pieces code has less) = (
  class,
  record {
    which = which;
    within = record {
      place = place;
      within = record {
        at = at;
        f = f;
        pieces = pieces;
        code = code;
        kind = 1;
        position = position;
        i = i;
        of = Table count refl has less;
        is = refl;
      };
    };
  },
)

-- ---- one method

module _ (bytes : List ℕ) (class which place : ℕ) where
  abbrev named : ℕ → ℕ → ℕ → List ℕ
  named kind position i = class ∷ which ∷ place ∷ kind ∷ position ∷ i ∷ []

  module _ (units : List ℕ) (pieces : List Piece) (insns : List Insn) (are : AreInsns (places_of units pieces) (instructions pieces) insns) where
    -- entries of the table of a position
    record InTable (position : ℕ) (w : List ℕ) : Type 0 where
      count : ℕ
      has : HasEntries units pieces position count
      i : ℕ
      less : i < count
      is : w ≡ named 1 position i

    one_table : (k : ℕ) (x : Insn) → slice_get insns k ≡ Some x → Most (InTable (0 + k)) (entries_of x)
    one_table k x there =
        let on : 0 + k ≡ k = omega arith in
        subst (λ n. Most (InTable n) (entries_of x)) (sym on)
        (fewer (InTable k) (entries_of x) (entries_of x) (numbered (named 1 k) (entries_of x))
        (λ w h. (
        let y = as_many units pieces insns are k h.count h.has in
        let same : entries_of y.0 ≡ entries_of x = ap entries_of (some_same y.0 x (sym y.1 ∙ there)) in
        let count = y.2 in
        let less = h.less in
        record { i = h.i; less = omega (arith, less, count, same); is = h.is })) (omega arith))

    of_tables : Most (OneOf InTable 0 (length insns)) (sum_by entries_of insns)
    of_tables = summed InTable entries_of insns 0 (length insns) (omega arith) one_table

    of_positions : (registers : ℕ) → Most (OneOf (λ position. IsNumbered (named 0 position) (registers + 1)) 0 (length insns)) ((registers + 1) * length insns)
    of_positions registers = rows (λ position. IsNumbered (named 0 position) (registers + 1)) (registers + 1) (length insns) 0 (length insns) (omega arith) (λ k. numbered (named 0 k) (registers + 1))

    abbrev Both : ℕ → List ℕ → Type 0
    Both registers w = OneOf (λ position. IsNumbered (named 0 position) (registers + 1)) 0 (length insns) w ⊎ OneOf InTable 0 (length insns) w

    by_part : (f : Frame) (registers : ℕ) → f.registers ≡ registers → (kind position i : ℕ) (w : List ℕ) → IsOf f units pieces kind position i → w ≡ named kind position i → Both registers w
    by_part f registers same kind position i w (Position zeroth less low) is =
        let p = get_there (instructions pieces) position less in
        let x = insn_there (places_of units pieces) (instructions pieces) insns are position p.0 p.1 in
        inl (record {
          place = position;
          low = omega arith;
          high = got_short insns position x.0 x.1;
          is = record { i = i; less = omega (arith, low, same); is = is ∙ ap (λ n. named n position i) zeroth };
        })
    by_part f registers same kind position i w (Table count first has less) is =
        let x = as_many units pieces insns are position count has in
        inr (record {
          place = position;
          low = omega arith;
          high = got_short insns position x.0 x.1;
          is = record { count = count; has = has; i = i; less = less; is = is ∙ ap (λ n. named n position i) first };
        })

  -- the code at a place is one thing alone
  record SameCode (w : List ℕ) (f : Frame) (units : List ℕ) (pieces : List Piece) : Type 0 where
    kind : ℕ
    position : ℕ
    i : ℕ
    of : IsOf f units pieces kind position i
    is : w ≡ named kind position i

  module _ (types at : ℕ) (body : Body) (lines : List ℕ) (h : IsCodeOf bytes types at body lines) where
    its : HasUnits bytes at h.frame h.code.units
    its = record { frame = h.code.frame; many = h.code.many; are = h.code.are_units }

    same_code : (w : List ℕ) (m : InMethod bytes class which place w) → m.at ≡ at → SameCode w h.frame h.code.units h.code.pieces
    same_code w m here =
        let there : HasUnits bytes at m.f m.code.units = subst (λ n. HasUnits bytes n m.f m.code.units) here m.code.are in
        let frame : m.f ≡ h.frame = frame_once bytes at m.f h.frame there.frame h.code.frame in
        let units : m.code.units ≡ h.code.units = units_once bytes at m.f h.frame m.code.units h.code.units there its in
        let pieces : m.pieces ≡ h.code.pieces = swept_once h.code.units m.pieces h.code.pieces (subst (λ us. IsSwept us m.pieces) units m.code.swept) h.code.swept in
        record {
          kind = m.kind;
          position = m.position;
          i = m.i;
          of = subst (λ g. IsOf g h.code.units h.code.pieces m.kind m.position m.i) frame (subst (λ us. IsOf m.f us h.code.pieces m.kind m.position m.i) units (subst (λ ps. IsOf m.f m.code.units ps m.kind m.position m.i) pieces m.of));
          is = m.is;
        }

    insns_are : AreInsns (places_of h.code.units h.code.pieces) (instructions h.code.pieces) body.insns
    insns_are = subst (λ q. AreInsns q (instructions h.code.pieces) body.insns) h.code.placed h.code.insns

    of_body : (In : List ℕ → Type 0) → ((w : List ℕ) → In w → (m : InMethod bytes class which place w) × (m.at ≡ at)) → Most In (body_cells body)
    of_body In to = together In ((body.registers + 1) * length body.insns) (sum_by entries_of body.insns)
        (of_positions h.code.units h.code.pieces body.insns insns_are body.registers) (of_tables h.code.units h.code.pieces body.insns insns_are)
        (λ w g. (let m = to w g in let c = same_code w m.0 m.1 in by_part h.code.units h.code.pieces body.insns insns_are h.frame body.registers h.code.registers c.kind c.position c.i w c.of c.is))

  -- of a method, where its entry is known
  of_code : (types code : ℕ) (m : Method) (In : List ℕ → Type 0) → ((w : List ℕ) → In w → (m : InMethod bytes class which place w) × (0 < code) × (m.at ≡ code)) → HasCode bytes types code m.body m.lines → Most In (method_cells m)
  of_code types code m In to h = by_body code m.body m.lines to h
    where
      by_body : (code : ℕ) (body : Option Body) (lines : List ℕ) → ((w : List ℕ) → In w → (m : InMethod bytes class which place w) × (0 < code) × (m.at ≡ code)) → HasCode bytes types code body lines
          → Most In (elim body [ Some b ↦ body_cells b | None ↦ 0 ])
      by_body zero None lines to h = none In (λ w g. (let x = to w g in let some = x.1 in omega (arith, some)))
      by_body zero (Some body) lines to h = absurd h
      by_body (suc k) None lines to h = absurd h
      by_body (suc k) (Some body) lines to h = of_body types (suc k) body lines h In (λ w g. (let x = to w g in (x.0, x.2)))

-- ---- the methods of a list

method_there : (bytes : List ℕ) (sizes : TableSizes) (types : ℕ) (d : Directory) (es : List Entry) (ms : List Method) → AreMethods bytes sizes types d es ms → (k : ℕ) (e : Entry) → slice_get es k ≡ Some e
    → (m : Method) × (slice_get ms k ≡ Some m)
method_there bytes sizes types d [] ms h k e there = absurd cc
method_there bytes sizes types d (x ∷ es) [] h k e there = absurd h
method_there bytes sizes types d (x ∷ es) (m ∷ ms) h zero e there = (m, refl)
method_there bytes sizes types d (x ∷ es) (m ∷ ms) h (suc k) e there = method_there bytes sizes types d es ms h.1 k e there

entry_there : (bytes : List ℕ) (sizes : TableSizes) (types : ℕ) (d : Directory) (es : List Entry) (ms : List Method) → AreMethods bytes sizes types d es ms → (k : ℕ) (m : Method) → slice_get ms k ≡ Some m
    → (e : Entry) × (slice_get es k ≡ Some e) × IsMethod bytes sizes types d e m
entry_there bytes sizes types d [] [] h k m there = absurd cc
entry_there bytes sizes types d [] (x ∷ ms) h k m there = absurd h
entry_there bytes sizes types d (e ∷ es) [] h k m there = absurd h
entry_there bytes sizes types d (e ∷ es) (x ∷ ms) h zero m there = (e, refl, subst (IsMethod bytes sizes types d e) (some_same x m there) h.0)
entry_there bytes sizes types d (e ∷ es) (x ∷ ms) h (suc k) m there = entry_there bytes sizes types d es ms h.1 k m there

module _ (bytes : List ℕ) (class : ℕ) where
  -- the entries of this list of the class are these
  abbrev AreListed : ℕ → List Entry → Type 0
  AreListed which es = (place : ℕ) (e : Entry) → HasEntry bytes class which place e → slice_get es place ≡ Some e

  of_list : (sizes : TableSizes) (types : ℕ) (d : Directory) (which : ℕ) (es : List Entry) (ms : List Method) → AreListed which es → AreMethods bytes sizes types d es ms → Most (InList bytes class which) (sum_by method_cells ms)
  of_list sizes types d which es ms listed are = fewer (InList bytes class which) (sum_by method_cells ms) (sum_by method_cells ms) (summed (InMethod bytes class which) method_cells ms 0 (length ms) (omega arith) one)
      (λ w h. (let m = method_there bytes sizes types d es ms are h.place h.within.code.entry (listed h.place h.within.code.entry h.within.code.has) in
      record { place = h.place; low = omega arith; high = got_short ms h.place m.0 m.1; is = h.within })) (omega arith)
    where
      one : (k : ℕ) (m : Method) → slice_get ms k ≡ Some m → Most (InMethod bytes class which (0 + k)) (method_cells m)
      one k m there =
          let on : 0 + k ≡ k = omega arith in
          let e = entry_there bytes sizes types d es ms are k m there in
          subst (λ n. Most (InMethod bytes class which n) (method_cells m)) (sym on)
          (of_code bytes class which k types e.0.code m (InMethod bytes class which k)
          (λ w h. (let same : h.code.entry ≡ e.0 = some_same h.code.entry e.0 (sym (listed k h.code.entry h.code.has) ∙ e.1) in
          let leads = subst (λ (x : Entry). Leads x.code h.at) same h.code.leads in (h, leads.0, leads.1))) e.2.code)

  -- ---- a class

  by_data : (l : Lists) (offset which place : ℕ) (def : Def) (e : Entry) → IsClassDataOf bytes offset l → 0 < offset → HasDef bytes class def → def.data_at ≡ offset → HasEntry bytes class which place e → slice_get (list_of l which) place ≡ Some e
  by_data l zero which place def e is some has same x = absurd (omega (arith, some))
  by_data l (suc k) which place def e is some has same x = listed_once bytes (suc k) l is.0 is.1 class which place def e has same x

  listed_in : (l : Lists) (def : Def) → IsClassDataOf bytes def.data_at l → HasDef bytes class def → (which place : ℕ) (e : Entry) → HasEntry bytes class which place e → slice_get (list_of l which) place ≡ Some e
  listed_in l def is has which place e x =
      let own : x.def ≡ def = one_def bytes class x.def def x.has has in
      let some : 0 < def.data_at = subst (λ (d : Def). 0 < d.data_at) own x.leads.0 in
      by_data l def.data_at which place def e is some has refl x

  by_number : (l : Lists) (which place : ℕ) (e : Entry) (w : List ℕ) → 2 ≤ which → slice_get (list_of l which) place ≡ Some e → InList bytes class which w → InList bytes class 2 w ⊎ InList bytes class 3 w
  by_number l zero place e w method there h = absurd (omega (arith, method))
  by_number l (suc zero) place e w method there h = absurd (omega (arith, method))
  by_number l (suc (suc zero)) place e w method there h = inl h
  by_number l (suc (suc (suc zero))) place e w method there h = inr h
  by_number l (suc (suc (suc (suc k)))) place e w method there h = absurd cc

  of_class : (p : Program) (sizes : TableSizes) (at : ℕ) (c : Class) (is : IsClass bytes p sizes at c) → HasDef bytes class is.def → Most (InClass bytes class) (class_cells c)
  of_class p sizes at c is has =
      let listed = listed_in is.lists is.def is.parts.lists_are has in
      let sum : sum_by method_cells c.methods ≡ sum_by method_cells is.directs + sum_by method_cells is.virtuals = ap (λ ms. sum_by method_cells ms) is.methods ∙ sum_by-append method_cells is.directs is.virtuals in
      fewer (InClass bytes class) (sum_by method_cells is.directs + sum_by method_cells is.virtuals) (class_cells c)
      (together (InClass bytes class) (sum_by method_cells is.directs) (sum_by method_cells is.virtuals)
      (of_list sizes (length p.types) is.directory 2 is.lists.directs is.directs (listed 2) is.are_directs)
      (of_list sizes (length p.types) is.directory 3 is.lists.virtuals is.virtuals (listed 3) is.are_virtuals)
      (λ w h. (let m = h.within.within in by_number is.lists h.which h.within.place m.code.entry w m.code.method (listed h.which h.within.place m.code.entry m.code.has) h.within)))
      (λ w h. h) (omega (arith, sum))

-- ---- the file

pub cells_spelled : (bytes : List ℕ) (p : Program) → Spells bytes p → Most (IsCell bytes) (cells_of p)
cells_spelled bytes p s = fewer (IsCell bytes) (cells_of p) (cells_of p) (summed (InClass bytes) class_cells p.classes 0 (length p.classes) (omega arith) one)
    (λ w h. (let c = cell_in bytes w h in
    let def = c.1.within.within.code.has.has in
    let less = (entry_is bytes 96 32 c.0 def.at s.table s.stands def.stands).0 in
    let long = s.classes.0 in
    record { place = c.0; low = omega arith; high = omega (arith, less, long); is = c.1 })) (omega arith)
  where
    one : (k : ℕ) (c : Class) → slice_get p.classes k ≡ Some c → Most (InClass bytes (0 + k)) (class_cells c)
    one k c there =
        let on : 0 + k ≡ k = omega arith in
        let less = got_short p.classes k c there in
        let long = s.classes.0 in
        let is = each_at (λ i. IsClass bytes p (sizes_in p) (s.table.offset + 32 * i)) p.classes k c s.classes.1 there in
        subst (λ n. Most (InClass bytes n) (class_cells c)) (sym on)
        (of_class bytes k p (sizes_in p) (s.table.offset + 32 * k) c is (record { at = s.table.offset + 32 * k; stands = entry_at bytes 96 32 s.table s.stands k (omega (arith, less, long)); is = is.is_def }))
