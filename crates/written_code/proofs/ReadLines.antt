-- The lines that are written are those that are read.
use Rattle.std.proofs.Common.{◌≡◌, ◌<◌, ◌+◌, ◌-◌, ◌*◌, ◌^◌, ◌⊎◌, inl, inr, ℕ, suc, Bool, true, false, List, [], ◌∷◌, ◌++◌, length, drop, replicate, Some, Ok, refl, sym, ap, subst, ◌∙◌, arith, length-append, take-append-drop}
use Rattle.std.specs.Prelude.{nat_eq, nat_le, not, ◌&&◌, if◌then◌else◌}
use Rattle.std.specs.List.{AllByRecursion, list_all, list_any}
use Rattle.std.proofs.lemmas.Bool.{and_parts, leb-true, le-leb, eqb-true, eq-eqb, ne_eqb}
use Rattle.lemmas.proofs.Bools.{clash, or_cases}
use Rattle.line_tables.specs.Item.{Lines, lines_at}
use Rattle.line_tables.specs.Text.{AscendsFrom, Lined, first_line, entries_text, item_text}
use Rattle.line_tables.proofs.ReadBack.{Gives, item_is_read}
use Rattle.dex_base.specs.Leb.{uleb_text}
use Rattle.program_model.specs.Neighbours.{neighbours}
use Rattle.program_model.specs.LineRules.{goes_on_with_lines, lines_fit}
use Rattle.program_model.specs.declared.body.Body.{Body}
use Rattle.program_model.specs.declared.program.Method.{Method}
use Rattle.program_model.specs.declared.program.Program.{Program}
use Rattle.dex_read.specs.Code.{kept_lines, counted_lines, lined_at}
use Rattle.dex_defs.specs.Here.{Here}
use Rattle.dex_defs.specs.ClassDefs.{HasCode}
use Rattle.dex_defs.specs.DebugItems.{lines_of}
use Rattle.dex_defs.specs.Texts.{lines_text}
use Rattle.dex_defs.specs.Valid.{CodePart, IsSomeCode, parameters_of}
use Rattle.file_laws.proofs.Lines.{founds_lines}
use Rattle.written_file.proofs.Standing.{Stands, Unplaced, Placed}
use Rattle.written_code.proofs.Rising.{starts_rise, starts_many}

pick_else : {X : Type 0} (b : Bool) (x y : X) → b ≡ false → (if b then x else y) ≡ y
pick_else true x y e = absurd cc
pick_else false x y e = refl

pick_then : {X : Type 0} (b : Bool) (x y : X) → b ≡ true → (if b then x else y) ≡ x
pick_then true x y e = refl
pick_then false x y e = absurd cc

-- ---- an item that stands

pub lines_back : (bytes lines starts : List ℕ) (debug parameters : ℕ) → 0 < debug → Here bytes debug (item_text lines starts parameters) → length lines ≡ length starts → AscendsFrom 0 starts → AllByRecursion (λ x. x < 2 ^ 31) lines → Lined 0 lines → parameters < 2 ^ 32
    → list_any (λ line. not (nat_eq line 0)) lines ≡ true → lines ≡ lines_of bytes debug starts
unfolding lined_at
lines_back bytes lines starts debug parameters some here long up low lined few any =
    let most : ℕ = 3 * length starts + 1 in
    let text : List ℕ = item_text lines starts parameters in
    let rest : List ℕ = drop (length text) (drop debug bytes) in
    let at : drop debug bytes ≡ text ++ rest = sym (take-append-drop (length text) (drop debug bytes)) ∙ ap (λ (l : List ℕ). l ++ rest) here.is in
    let g : Gives (3 * length starts + 1) (lines_at bytes debug starts most) lines = item_is_read bytes lines starts rest debug parameters most long up low lined few (omega arith) at in
    let zero_no : nat_eq debug 0 ≡ false = ne_eqb debug 0 (λ e. omega (arith, some, e)) in
    let enough : nat_le g.opcodes most ≡ true = le-leb g.opcodes most g.few in
    let read : lined_at bytes debug starts most ≡ Ok (lines, most - g.opcodes) =
    pick_else (nat_eq debug 0) (Ok ([], most)) (counted_lines most (lines_at bytes debug starts most)) zero_no
    ∙ (ap (λ (l : Lines). counted_lines most l) g.is
    ∙ (pick_then (nat_le g.opcodes most) (Ok (kept_lines (Some lines), most - g.opcodes)) _ enough
    ∙ ap (λ (l : List ℕ). Ok (l, most - g.opcodes)) (pick_then (list_any (λ line. not (nat_eq line 0)) lines) lines [] any))) in
    (founds_lines bytes debug starts most up).found (lines, most - g.opcodes) read

-- ---- the lines of a well-formed method

lined_from : (shown : ℕ) (ls : List ℕ) → list_all goes_on_with_lines (neighbours (shown ∷ ls)) ≡ true → Lined shown ls
lined_from shown [] e = tt
lined_from shown (l ∷ ls) e =
    let both = and_parts (goes_on_with_lines (shown, l)) (list_all goes_on_with_lines (neighbours (l ∷ ls))) e in
    ((λ z. by (or_cases (nat_eq shown 0) (not (nat_eq l 0)) both.0) z), lined_from l ls both.1)
  where
    by : (nat_eq shown 0 ≡ true) ⊎ (not (nat_eq l 0) ≡ true) → l ≡ 0 → shown ≡ 0
    by (inl s) z = eqb-true shown 0 s
    by (inr n) z = clash (not (nat_eq l 0)) n (ap not (eq-eqb l 0 z))

low_all : (ls : List ℕ) → list_all (λ line. nat_le line 2147483647) ls ≡ true → AllByRecursion (λ x. x < 2 ^ 31) ls
low_all [] e = tt
low_all (l ∷ ls) e = let both = and_parts (nat_le l 2147483647) (list_all (λ line. nat_le line 2147483647) ls) e in (omega (arith, leb-true l 2147483647 both.0), low_all ls both.1)

record FitLines (positions : ℕ) (lines : List ℕ) : Type 0 where
  many : length lines ≡ positions
  any : list_any (λ line. not (nat_eq line 0)) lines ≡ true
  low : AllByRecursion (λ x. x < 2 ^ 31) lines
  lined : Lined 0 lines

fit_parts : (positions l : ℕ) (ls : List ℕ) → lines_fit positions (l ∷ ls) ≡ true → FitLines positions (l ∷ ls)
unfolding lines_fit
fit_parts positions l ls e = elim (or_cases (nat_eq (length (l ∷ ls)) 0) ((nat_eq (length (l ∷ ls)) positions && list_any (λ line. not (nat_eq line 0)) (l ∷ ls)) && (list_all (λ line. nat_le line 2147483647) (l ∷ ls) && list_all goes_on_with_lines (neighbours (l ∷ ls)))) e) [
  | inl z ↦ absurd (let none : length (l ∷ ls) ≡ 0 = eqb-true (length (l ∷ ls)) 0 z in omega (arith, none))
  | inr g ↦
      let a = and_parts (nat_eq (length (l ∷ ls)) positions && list_any (λ line. not (nat_eq line 0)) (l ∷ ls)) (list_all (λ line. nat_le line 2147483647) (l ∷ ls) && list_all goes_on_with_lines (neighbours (l ∷ ls))) g in
      let b = and_parts (nat_eq (length (l ∷ ls)) positions) (list_any (λ line. not (nat_eq line 0)) (l ∷ ls)) a.0 in
      let c = and_parts (list_all (λ line. nat_le line 2147483647) (l ∷ ls)) (list_all goes_on_with_lines (neighbours (l ∷ ls))) a.1 in
      record { many = eqb-true (length (l ∷ ls)) positions b.0; any = b.1; low = low_all (l ∷ ls) c.0; lined = ((λ z. refl), lined_from l ls c.1) }
]

-- no position, no lines
pub none_fit : (lines : List ℕ) → lines_fit 0 lines ≡ true → lines ≡ []
none_fit [] e = refl
none_fit (l ∷ ls) e = let f : FitLines 0 (l ∷ ls) = fit_parts 0 l ls e in absurd (let n : length (l ∷ ls) ≡ 0 = f.many in omega (arith, n))

item_some : (lines starts : List ℕ) (parameters : ℕ) → item_text lines starts parameters ≡ [] → ⊥
unfolding item_text
item_some lines starts parameters e =
    let front : List ℕ = uleb_text (first_line lines) ++ uleb_text parameters ++ replicate parameters 0 ++ entries_text 0 (first_line lines) 0 starts lines in
    let long : length (front ++ 0 ∷ []) ≡ 0 = ap (λ (l : List ℕ). length l) e in
    omega (arith, long, length-append front (0 ∷ []))

-- a method with code is read back
pub code_back : (bytes : List ℕ) (q : Program) (k : ℕ) (m : Method) (part : CodePart) → length bytes < 2 ^ 32 → parameters_of q m < 2 ^ 32 → ((body : Body) → m.body ≡ Some body → lines_fit (length body.insns) m.lines ≡ true)
    → Stands bytes part.debug part.lines → (code : IsSomeCode bytes q (suc k) m part) → HasCode bytes (length q.types) (suc k) m.body m.lines
code_back bytes q k m part few_file few fits stands code = subst (λ o. HasCode bytes (length q.types) (suc k) o m.lines) (sym code.is_body) (record { frame = code.frame; places = code.places; code = code.code; are_lines = by m.lines refl })
  where
    up : AscendsFrom 0 code.places.starts
    up = starts_rise bytes (length q.types) (suc k) code.frame code.places code.body few_file code.code

    no_debug : part.lines ≡ [] → Stands bytes part.debug part.lines → part.debug ≡ 0
    no_debug e (Unplaced a t) = a
    no_debug e (Placed a t h) = absurd (let none : length part.lines ≡ 0 = ap (λ (l : List ℕ). length l) e in omega (arith, t, none))

    by_stands : (l : ℕ) (ls : List ℕ) → m.lines ≡ l ∷ ls → part.lines ≡ item_text (l ∷ ls) code.places.starts (parameters_of q m) → Stands bytes part.debug part.lines → (l ∷ ls) ≡ lines_of bytes part.debug code.places.starts
    by_stands l ls e text (Unplaced a t) = absurd (item_some (l ∷ ls) code.places.starts (parameters_of q m) (sym text ∙ t))
    by_stands l ls e text (Placed a t h) =
        let f : FitLines (length code.body.insns) (l ∷ ls) = fit_parts (length code.body.insns) l ls (subst (λ x. lines_fit (length code.body.insns) x ≡ true) e (fits code.body code.is_body)) in
        lines_back bytes (l ∷ ls) code.places.starts part.debug (parameters_of q m) a (subst (λ x. Here bytes part.debug x) text h) (f.many ∙ sym (starts_many bytes (length q.types) (suc k) code.frame code.places code.body code.code)) up f.low f.lined few f.any

    by : (lines : List ℕ) → m.lines ≡ lines → m.lines ≡ lines_of bytes code.frame.debug code.places.starts
    by [] e = e ∙ sym (ap (λ (n : ℕ). lines_of bytes n code.places.starts) (sym code.debug ∙ no_debug (code.lines ∙ ap (λ (x : List ℕ). lines_text x code.places.starts (parameters_of q m)) e) stands))
    by (l ∷ ls) e = e ∙ (by_stands l ls e (code.lines ∙ ap (λ (x : List ℕ). lines_text x code.places.starts (parameters_of q m)) e) stands ∙ ap (λ (n : ℕ). lines_of bytes n code.places.starts) code.debug)
