-- What is met above the classes of a program.
use Rattle.std.proofs.Common.{◌≡◌, ℕ, zero, suc, ◌+◌, ◌<◌, ◌≤◌, inl, inr, Bool, true, false, true≢false, List, [], ◌∷◌, ◌++◌, length, take, get_or, Option, Some, None, refl, sym, ap, subst, ◌∙◌, arith}
use Rattle.std.specs.Prelude.{◌⊎◌, ◌&&◌, ◌||◌, not, is_some, is_none, slice_get}
use Rattle.std.specs.List.{list_all}
use Rattle.std.proofs.lemmas.Option.{slice_get_within}
use Rattle.program_model.specs.Lookups.{class_place}
use Rattle.program_model.specs.MemberRules.{is_object}
use Rattle.program_model.specs.Texts.{string_text, type_text}
use Rattle.program_model.specs.declared.pools.MethodName.{MethodName}
use Rattle.program_model.specs.declared.program.Class.{Class}
use Rattle.program_model.specs.declared.program.Program.{Program}
use Rattle.stub_library.specs.Stubs.{proto_text}
use Rattle.stub_library.specs.Shut.{walk_clear, type_clear}
use Rattle.stub_library.specs.Meeting.{Meets, MeetsEntry, is_clear, clear_by, IsMet, HasMet, AreMet, MetTo}
use Rattle.stub_library.specs.declared.library.Library.{Library}
use Rattle.stub_library.specs.declared.declared.Met.{Met}
use Rattle.stub_library.proofs.ByText.{got_front, got_last, one_longer, before_or_at}

and_true : (a : Bool) → a ≡ (a && true)
and_true true = refl
and_true false = refl

-- a type of the framework
pub met_type : (p : Program) (l : Library) (kind : ℕ) (old new : Met) → (is_none (class_place p kind) && not (is_object (type_text p kind))) ≡ true
    → Meets p (λ n q. walk_clear (length l.classes + 2) l n q (type_text p kind)) old new → MeetsEntry p (λ q. type_clear p l q kind) old new
met_type p l kind old new away meets = record { is = λ i q e. meets.is i q e ∙ ap (λ b. is_clear p old q && b) (by (walk_clear (length l.classes + 2) l (string_text p q.name) (proto_text p q.proto) (type_text p kind)) (class_place p kind) (is_object (type_text p kind)) away) }
  where
    by : (w : Bool) (o : Option ℕ) (b : Bool) → (is_none o && not b) ≡ true → w ≡ (is_some o || b || w)
    by w None false e = refl
    by w None true e = absurd (true≢false (sym e))
    by w (Some c) b e = absurd (true≢false (sym e))

-- any other type
pub unmet_type : (p : Program) (l : Library) (kind : ℕ) (met : Met) → (is_none (class_place p kind) && not (is_object (type_text p kind))) ≡ false → MeetsEntry p (λ q. type_clear p l q kind) met met
unmet_type p l kind met here = record { is = λ i q e. and_true (is_clear p met q) ∙ ap (λ b. is_clear p met q && b) (by (walk_clear (length l.classes + 2) l (string_text p q.name) (proto_text p q.proto) (type_text p kind)) (class_place p kind) (is_object (type_text p kind)) here) }
  where
    by : (w : Bool) (o : Option ℕ) (b : Bool) → (is_none o && not b) ≡ false → true ≡ (is_some o || b || w)
    by w None true e = refl
    by w None false e = absurd (true≢false e)
    by w (Some c) b e = refl

-- what is met above a class
pub met_class : (p : Program) (l : Library) (k : Class) (first one met : Met) → first.whole ≡ true → first.numbers.items ≡ [] → MeetsEntry p (λ q. type_clear p l q k.superclass) first one
    → MeetsEntry p (λ q. list_all (type_clear p l q) k.interfaces) one met → IsMet p l k met.whole met.numbers.items
met_class p l k first one met whole none x y = record {
  is = λ i q e. y.is i q e ∙ ap (λ b. b && list_all (type_clear p l q) k.interfaces) (x.is i q e
      ∙ ap (λ b. b && type_clear p l q k.superclass) (ap (λ w. clear_by p q w first.numbers.items) whole ∙ ap (clear_by p q true) none));
}

not_not : (b : Bool) → not (not b) ≡ b
not_not true = refl
not_not false = refl

-- one class more
pub met_more : (p : Program) (l : Library) (opens opens' : List Bool) (rows rows' : List (List ℕ)) (done : ℕ) (k : Class) (whole : Bool) (row : List ℕ) → MetTo p l opens rows done → slice_get p.classes done ≡ Some k
    → IsMet p l k whole row → opens' ≡ opens ++ not whole ∷ [] → rows' ≡ rows ++ row ∷ [] → MetTo p l opens' rows' (done + 1)
met_more p l opens opens' rows rows' done k whole row to got met pushed more = record {
  open_size = ap length pushed ∙ one_longer opens (not whole) ∙ ap (λ m. m + 1) to.open_size;
  row_size = ap length more ∙ one_longer rows row ∙ ap (λ m. m + 1) to.row_size;
  at = λ e u lt g. elim (before_or_at e done lt) [
    | inl b ↦ (
        let w = to.at e u b g in
        record {
          open_here = w.open_here;
          row = w.row;
          is_open = ap (λ xs. slice_get xs e) pushed ∙ got_front opens (not whole ∷ []) e (let z = to.open_size in omega (arith, b, z)) ∙ w.is_open;
          is_row = ap (λ xs. slice_get xs e) more ∙ got_front rows (row ∷ []) e (let z = to.row_size in omega (arith, b, z)) ∙ w.is_row;
          met = w.met;
        })
    | inr z ↦ (
        let y : Some u ≡ Some k = sym g ∙ ap (slice_get p.classes) z ∙ got in
        let classes : u ≡ k = cc in
        record {
          open_here = not whole;
          row = row;
          is_open = ap (λ xs. slice_get xs e) pushed ∙ ap (slice_get (opens ++ not whole ∷ [])) (z ∙ sym to.open_size) ∙ got_last opens (not whole);
          is_row = ap (λ xs. slice_get xs e) more ∙ ap (slice_get (rows ++ row ∷ [])) (z ∙ sym to.row_size) ∙ got_last rows row;
          met = subst (λ v. IsMet p l v (not (not whole)) row) (sym classes) (subst (λ b. IsMet p l k b row) (sym (not_not whole)) met);
        })
  ];
}

pub met_none : (p : Program) (l : Library) (opens : List Bool) (rows : List (List ℕ)) → opens ≡ [] → rows ≡ [] → MetTo p l opens rows 0
met_none p l opens rows e f = record { open_size = ap length e; row_size = ap length f; at = λ i k lt. absurd (omega (arith, lt)) }

pub met_all : (p : Program) (l : Library) (opens : List Bool) (rows : List (List ℕ)) (done : ℕ) → length p.classes ≤ done → done ≤ length p.classes → MetTo p l opens rows done → AreMet p l opens rows
met_all p l opens rows done le ge to =
    let same : done ≡ length p.classes = omega (arith, le, ge) in
    record { open_size = to.open_size ∙ same; row_size = to.row_size ∙ same; at = λ e k g. to.at e k (let z = slice_get_within p.classes e k g in omega (arith, z, same)) g }
