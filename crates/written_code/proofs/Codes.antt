-- The code of each method that is written stands where class data says.
use Rattle.std.proofs.Common.{◌≡◌, ◌<◌, ◌≤◌, ◌+◌, ◌-◌, ◌^◌, inl, inr, ℕ, zero, suc, Bool, true, List, [], ◌∷◌, length, map, Some, refl, sym, ap, subst, ◌∙◌, arith}
use Rattle.std.specs.Prelude.{slice_get, slice_index, nat_eq, nat_lt, nat_le, not, ◌&&◌, if◌then◌else◌}
use Rattle.std.specs.List.{AllByRecursion, flat_map, list_all, list_any}
use Rattle.std.specs.Option.{option_map}
use Rattle.std.proofs.lemmas.Bool.{and_parts, and_from, eq-eqb, ne_eqb, le-leb, lt-ltb, leb-true, eqb-true}
use Rattle.lemmas.proofs.Bools.{or_cases}
use Rattle.lemmas.proofs.Options.{some_same}
use Rattle.program_model.specs.Cells.{body_cells}
use Rattle.program_model.specs.LineRules.{lines_fit, goes_on_with_lines}
use Rattle.program_model.specs.Neighbours.{neighbours}
use Rattle.program_model.specs.BodyRules.{body_fits}
use Rattle.program_model.specs.MemberRules.{proto_of, lacks_code, frame_fits, code_fits}
use Rattle.program_model.specs.declared.pass.Renumber.{Renumber}
use Rattle.program_model.specs.declared.body.Handler.{Handler}
use Rattle.program_model.specs.declared.body.Body.{Body}
use Rattle.program_model.specs.declared.program.Method.{Method}
use Rattle.program_model.specs.declared.program.Program.{Program}
use Rattle.dex_pools.specs.declared.interner.Interner.{Interner}
use Rattle.dex_pools.specs.Interned.{IsInterned}
use Rattle.dex_pools.specs.Numbering.{used_in}
use Rattle.dex_pools.specs.Used.{body_names, handler_names}
use Rattle.line_tables.specs.Text.{item_text as line_text}
use Rattle.relax.specs.declared.layout.Layout.{Layout}
use Rattle.relax.specs.Layouts.{IsLaidOut}
use Rattle.relax.specs.Sizes.{start}
use Rattle.relax.specs.Payloads.{capped_place}
use Rattle.relax.proofs.Starts.{start_mono}
use Rattle.code_write.specs.Code.{spots_of}
use Rattle.code_write.specs.Items.{code_item}
use Rattle.dex_write.specs.declared.ordered.MethodPart.{MethodPart}
use Rattle.dex_write.specs.Codes as writer
use Rattle.dex_write.specs.Codes.{IsCoded, Bodiless, Far, Laid, debug_offset, with_debug, ascend, are_low, parameters_in}
use Rattle.dex_defs.specs.Here.{Here}
use Rattle.dex_defs.specs.Sweep.{Piece, Places, instructions, places_of}
use Rattle.dex_defs.specs.CodeTexts.{code_text}
use Rattle.dex_defs.specs.LaysOut.{LaysOutBody, LaysOutMethod}
use Rattle.dex_defs.specs.Texts.{lines_text}
use Rattle.dex_defs.specs.Valid.{IsCodePart, parameters_of}
use Rattle.dex_defs.specs.Written.{new_body, written_method, written_by}
use Rattle.write_laws.specs.Used.{IsUsed, IsShort}
use Rattle.write_laws.specs.Placing.{item_text}
use Rattle.write_laws.proofs.Here.{here_same}
use Rattle.write_laws.proofs.Coded.{item_long}
use Rattle.written_file.proofs.Standing.{Stands, Unplaced, Placed}
use Rattle.widths.specs.Code.{WideCode}
use Rattle.written_code.proofs.Forms.{Renamed}
use Rattle.written_code.proofs.Least.{AllSome, start_less}
use Rattle.written_code.proofs.Bodies.{Swept, piece_texts}
use Rattle.written_code.proofs.Frames.{FitBody, texts_of, units_of_body, swept_body, frame_of, code_stands}
use Rattle.written_code.proofs.Fitting.{FewEntries, kind_renamed, fit_body, same_sizes, written_sizes, none_far}
use Rattle.written_code.proofs.Texts.{text_is}

-- ---- methods without code

no_text : (debug : ℕ) (part : MethodPart) → part.code ≡ [] → item_text debug part ≡ []
no_text debug part e = ap (λ (l : List ℕ). if nat_eq (length l) 0 then [] else with_debug debug l) e

no_debug : (at : ℕ) (part : MethodPart) → part.lines ≡ [] → debug_offset at part ≡ 0
no_debug at part e = ap (λ (l : List ℕ). if nat_eq (length l) 0 then 0 else at) e

-- where nothing stands, the offset is 0
none_at : (bytes : List ℕ) (offset : ℕ) (text : List ℕ) → text ≡ [] → Stands bytes offset text → offset ≡ 0
none_at bytes offset text e (Unplaced a b) = a
none_at bytes offset text e (Placed a b h) = absurd (omega (arith, b, ap (λ (l : List ℕ). length l) e))

no_code : (bytes : List ℕ) (q : Program) (offset at : ℕ) (m : Method) (part : MethodPart) → part.code ≡ [] → part.lines ≡ [] → Stands bytes offset (item_text (debug_offset at part) part)
    → IsCodePart bytes q offset m (record { debug = debug_offset at part; text = item_text (debug_offset at part) part; lines = part.lines })
no_code bytes q offset at m part c l s = subst (λ o. IsCodePart bytes q o m (record { debug = debug_offset at part; text = item_text (debug_offset at part) part; lines = part.lines })) (sym (none_at bytes offset (item_text (debug_offset at part) part) (no_text (debug_offset at part) part c) s))
    (record { text = no_text (debug_offset at part) part c; lines = l; debug = no_debug at part l })

-- ---- lines

module _ (sizes starts : List ℕ) (some : AllSome sizes) (long : length starts ≡ length sizes) (at : (j : ℕ) → j < length sizes → slice_get starts j ≡ Some (start sizes j)) (low : start sizes (length sizes) < 2 ^ 31) where
  ascends_from : (ss : List ℕ) (k least : ℕ) → k + length ss ≡ length sizes → ((j : ℕ) → j < length ss → slice_get ss j ≡ Some (start sizes (k + j))) → (k < length sizes → least ≤ start sizes k) → ascend least ss ≡ true
  ascends_from [] k least e g le = refl
  ascends_from (s ∷ ss) k least e g le =
      let inside : k < length sizes = omega (arith, e) in
      let here : s ≡ start sizes k = some_same s (start sizes k) (g 0 (omega arith) ∙ ap (λ (n : ℕ). Some (start sizes n)) (let z : k + 0 ≡ k = omega arith in z)) in
      let small : s < 2147483648 = omega (arith, here, start_mono sizes k (length sizes) (omega (arith, inside)), low) in
      and_from (nat_le least s) (nat_lt s 2147483648 && ascend (suc s) ss) (le-leb least s (omega (arith, le inside, here)))
      (and_from (nat_lt s 2147483648) (ascend (suc s) ss) (lt-ltb s 2147483648 small)
      (ascends_from ss (suc k) (suc s) (omega (arith, e)) (λ j lt. g (suc j) (omega (arith, lt)) ∙ ap (λ (n : ℕ). Some (start sizes n)) (let z : k + suc j ≡ suc k + j = omega arith in z)) (λ lt. omega (arith, here, start_less sizes k (suc k) some (omega arith) inside))))

  pub starts_ascend : ascend 0 starts ≡ true
  starts_ascend = ascends_from starts 0 0 (omega (arith, long)) (λ j lt. at j (omega (arith, lt, long)) ∙ ap (λ (n : ℕ). Some (start sizes n)) (let z : j ≡ 0 + j = omega arith in z)) (λ lt. omega arith)

lines_low : (ls : List ℕ) → list_all (λ line. nat_le line 2147483647) ls ≡ true → are_low ls ≡ true
lines_low [] e = refl
lines_low (l ∷ ls) e =
    let both = and_parts (nat_le l 2147483647) (list_all (λ line. nat_le line 2147483647) ls) e in
    and_from (nat_lt l 2147483648) (are_low ls) (lt-ltb l 2147483648 (omega (arith, leb-true l 2147483647 both.0))) (lines_low ls both.1)

record LinesFit (positions : ℕ) (lines : List ℕ) : Type 0 where
  many : length lines ≡ positions
  low : list_all (λ line. nat_le line 2147483647) lines ≡ true

lines_parts : (positions l : ℕ) (ls : List ℕ) → lines_fit positions (l ∷ ls) ≡ true → LinesFit positions (l ∷ ls)
unfolding lines_fit
lines_parts positions l ls e = elim (or_cases (nat_eq (length (l ∷ ls)) 0) ((nat_eq (length (l ∷ ls)) positions && list_any (λ line. not (nat_eq line 0)) (l ∷ ls)) && (list_all (λ line. nat_le line 2147483647) (l ∷ ls) && list_all goes_on_with_lines (neighbours (l ∷ ls)))) e) [
  | inl z ↦ absurd (let none : length (l ∷ ls) ≡ 0 = eqb-true (length (l ∷ ls)) 0 z in omega (arith, none))
  | inr g ↦
      let a = and_parts (nat_eq (length (l ∷ ls)) positions && list_any (λ line. not (nat_eq line 0)) (l ∷ ls)) (list_all (λ line. nat_le line 2147483647) (l ∷ ls) && list_all goes_on_with_lines (neighbours (l ∷ ls))) g in
      let b = and_parts (nat_eq (length (l ∷ ls)) positions) (list_any (λ line. not (nat_eq line 0)) (l ∷ ls)) a.0 in
      let c = and_parts (list_all (λ line. nat_le line 2147483647) (l ∷ ls)) (list_all goes_on_with_lines (neighbours (l ∷ ls))) a.1 in
      record { many = eqb-true (length (l ∷ ls)) positions b.0; low = c.0 }
]

lines_same : (lines starts : List ℕ) (parameters positions : ℕ) → lines_fit positions lines ≡ true → length starts ≡ positions → ascend 0 starts ≡ true → writer.lines_text parameters lines starts ≡ lines_text lines starts parameters
lines_same [] starts parameters positions fit long up = refl
lines_same (l ∷ ls) starts parameters positions fit long up =
    let h : LinesFit positions (l ∷ ls) = lines_parts positions l ls fit in
    let many : nat_eq (length (l ∷ ls)) (length starts) ≡ true = eq-eqb (length (l ∷ ls)) (length starts) (h.many ∙ sym long) in
    ap (λ (b : Bool). if b then line_text (l ∷ ls) starts parameters else []) (and_from (not (nat_eq (length (l ∷ ls)) 0)) (nat_eq (length (l ∷ ls)) (length starts) && (ascend 0 starts && are_low (l ∷ ls))) (some_lines (length ls))
    (and_from (nat_eq (length (l ∷ ls)) (length starts)) (ascend 0 starts && are_low (l ∷ ls)) many (and_from (ascend 0 starts) (are_low (l ∷ ls)) up (lines_low (l ∷ ls) h.low))))
  where
    some_lines : (n : ℕ) → not (nat_eq (suc n) 0) ≡ true
    some_lines n = ap not (ne_eqb (suc n) 0 (λ z. omega (arith, z)))

-- ---- lists with the same entries

same_entries : (xs ys : List ℕ) → length xs ≡ length ys → ((j : ℕ) → j < length xs → slice_get xs j ≡ slice_get ys j) → xs ≡ ys
same_entries [] [] e h = refl
same_entries [] (y ∷ ys) e h = absurd (omega (arith, e))
same_entries (x ∷ xs) [] e h = absurd (omega (arith, e))
same_entries (x ∷ xs) (y ∷ ys) e h =
    let one : x ≡ y = some_same x y (h 0 (omega arith)) in
    ap (λ (n : ℕ). n ∷ xs) one ∙ ap (λ (l : List ℕ). y ∷ l) (same_entries xs ys (omega (arith, e)) (λ j lt. h (suc j) (omega (arith, lt))))

got_index : (xs : List ℕ) (k v : ℕ) → k < length xs → slice_index xs k ≡ v → slice_get xs k ≡ Some v
got_index [] k v lt e = absurd (omega (arith, lt))
got_index (x ∷ xs) zero v lt e = ap (λ (n : ℕ). Some n) e
got_index (x ∷ xs) (suc k) v lt e = got_index xs k v (omega (arith, lt)) e

-- ---- one method

module _ (p : Program) (i : Interner) (few : IsShort p) (h : IsInterned p i) (entries : FewEntries p (written_by i p)) where
  abbrev q : Program
  q = written_by i p

  abbrev r : Renumber
  r = i.numbers

  -- what is asked of a method
  pub record FitMethod (m : Method) : Type 0 where
    pub code : code_fits p m m.body ≡ true
    pub cells : (b : Body) → m.body ≡ Some b → body_cells b ≤ 67108864
    pub wide : WideCode m.body
    pub used : (b : Body) → m.body ≡ Some b → AllByRecursion (IsUsed (used_in p)) (body_names b)
    pub small : (b : Body) → m.body ≡ Some b → AllByRecursion (λ x. length x.handlers < 2 ^ 31) b.regions
    pub lays : LaysOutMethod (written_method r m).body
    pub parameters : parameters_in (proto_of p m.name) ≡ parameters_of q (written_method r m)

  record Coded (m : Method) (b : Body) : Type 0 where
    body : body_fits p b ≡ true
    lines : lines_fit (length b.insns) m.lines ≡ true

  coded : (m : Method) (b : Body) → m.body ≡ Some b → code_fits p m m.body ≡ true → Coded m b
  coded m b e c =
      let is : code_fits p m (Some b) ≡ true = subst (λ o. code_fits p m o ≡ true) e c in
      let a = and_parts (not (lacks_code m.flags)) (frame_fits p m b && (body_fits p b && lines_fit (length b.insns) m.lines)) is in
      let d = and_parts (frame_fits p m b) (body_fits p b && lines_fit (length b.insns) m.lines) a.1 in
      let g = and_parts (body_fits p b) (lines_fit (length b.insns) m.lines) d.1 in
      record { body = g.0; lines = g.1 }

  handlers_renamed : (hs : List Handler) → (sizes : List ℕ) → AllByRecursion (IsUsed (used_in p)) (flat_map handler_names hs) → AllByRecursion (λ x. nat_lt x.kind (length p.types) ≡ true) hs → AllByRecursion (λ x. Renamed r.types.items x.kind 65536) hs
  handlers_renamed [] sizes u t = tt
  handlers_renamed (x ∷ xs) sizes u t = (kind_renamed p i few h entries x.kind t.0 u.0, handlers_renamed xs sizes u.1 t.1)

  module _ (bytes : List ℕ) where
    some_code : (m : Method) (b : Body) (layout : Layout) (offset at : ℕ) (part : MethodPart) → FitMethod m → (e : m.body ≡ Some b) → (laid : IsLaidOut r b layout) → part.code ≡ code_item r b (spots_of layout) 0 → part.lines ≡ writer.lines_text (parameters_in (proto_of p m.name)) m.lines layout.starts.items
        → debug_offset at part < 2 ^ 32 → AllByRecursion (λ x. AllByRecursion (λ y. Renamed r.types.items y.kind 65536) x.handlers) b.regions → Stands bytes offset (item_text (debug_offset at part) part)
        → IsCodePart bytes q offset (written_method r m) (record { debug = debug_offset at part; text = item_text (debug_offset at part) part; lines = part.lines })
    some_code m b layout offset at part fit e laid code lines few_debug named s = by_stands offset s
      where
        debug : ℕ
        debug = debug_offset at part

        c : Coded m b
        c = coded m b e fit.code

        lays : LaysOutBody (new_body r b)
        lays = subst LaysOutMethod (ap (option_map (new_body r)) e) fit.lays

        used : AllByRecursion (IsUsed (used_in p)) (body_names b)
        used = fit.used b e

        body : FitBody r laid.sizes (length q.types) b
        body = fit_body p i few h entries b layout c.body (fit.cells b e) (subst WideCode e fit.wide) used (fit.small b e) laid lays (same_sizes p i few h entries b c.body used laid.sizes laid.least lays)

        long : 16 ≤ length part.code
        long = omega (arith, ap (λ (l : List ℕ). length l) code, item_long r b (spots_of layout) 0)

        text : item_text debug part ≡ code_text laid.sizes (texts_of r laid.sizes b) debug (new_body r b)
        text = ap (λ (t : Bool). if t then [] else with_debug debug part.code) (ne_eqb (length part.code) 0 (λ z. omega (arith, z, long))) ∙ (ap (λ (l : List ℕ). with_debug debug l) code ∙ text_is r (length q.types) b layout laid body debug named)

        swept : Swept r laid.sizes b.insns (units_of_body r laid.sizes b)
        swept = swept_body r laid.sizes (length q.types) b body

        places : Places
        places = places_of (units_of_body r laid.sizes b) swept.pieces

        low : start laid.sizes (length laid.sizes) < 2 ^ 31
        low = omega (arith, body.room)

        starts_are : layout.starts.items ≡ places.starts
        starts_are = same_entries layout.starts.items places.starts (laid.long ∙ (sym body.long ∙ sym swept.starts_long)) (λ j lt.
            let inside : j < length laid.sizes = omega (arith, lt, laid.long, body.long) in
            let small : capped_place (start laid.sizes j) ≡ start laid.sizes j = omega (arith, start_mono laid.sizes j (length laid.sizes) (omega (arith, inside)), low) in
            got_index layout.starts.items j (start laid.sizes j) lt (laid.starts j (omega (arith, inside, body.long)) ∙ small) ∙ sym (swept.starts j inside))

        lines_are : part.lines ≡ lines_text m.lines places.starts (parameters_of q (written_method r m))
        lines_are =
            lines ∙ (ap (λ (l : List ℕ). writer.lines_text (parameters_in (proto_of p m.name)) m.lines l) starts_are
            ∙ (lines_same m.lines places.starts (parameters_in (proto_of p m.name)) (length b.insns) c.lines (swept.starts_long ∙ body.long) (starts_ascend laid.sizes places.starts body.some swept.starts_long swept.starts low)
            ∙ ap (λ (n : ℕ). lines_text m.lines places.starts n) fit.parameters))

        by_stands : (o : ℕ) → Stands bytes o (item_text debug part) → IsCodePart bytes q o (written_method r m) (record { debug = debug; text = item_text debug part; lines = part.lines })
        by_stands o (Unplaced a none) = absurd (no_text_here (sym text ∙ none))
          where
            no_text_here : code_text laid.sizes (texts_of r laid.sizes b) debug (new_body r b) ≡ [] → ⊥
            no_text_here z = cc
        by_stands zero (Placed a t here) = absurd (omega (arith, a))
        by_stands (suc k) (Placed a t here) =
            let there : Here bytes (suc k) (code_text laid.sizes (texts_of r laid.sizes b) debug (new_body r b)) = here_same bytes (suc k) (item_text debug part) (code_text laid.sizes (texts_of r laid.sizes b) debug (new_body r b)) text here in
            let pieces : map (λ piece. piece.text) (instructions swept.pieces) ≡ texts_of r laid.sizes b = ap (λ (l : List Piece). map (λ piece. piece.text) l) swept.insns_are ∙ piece_texts 0 (texts_of r laid.sizes b) in
            record {
              body = new_body r b;
              is_body = ap (option_map (new_body r)) e;
              frame = frame_of r laid.sizes b debug;
              places = places;
              code = code_stands bytes (suc k) debug (length q.types) r laid.sizes b entries.types few_debug body there;
              pieces = swept.pieces;
              swept = swept.swept;
              shortest = swept.shortest;
              sizes = laid.sizes;
              least = written_sizes p i few h entries b c.body used laid.sizes laid.least;
              debug = refl;
              text = text ∙ ap (λ (l : List (List ℕ)). code_text laid.sizes l debug (new_body r b)) (sym pieces);
              lines = lines_are;
            }

    pub method_part : (m : Method) (offset at : ℕ) (part : MethodPart) → FitMethod m → ((b : Body) → m.body ≡ Some b → AllByRecursion (λ x. AllByRecursion (λ y. Renamed r.types.items y.kind 65536) x.handlers) b.regions) → debug_offset at part < 2 ^ 32 → IsCoded p r m part.code part.lines
        → Stands bytes offset (item_text (debug_offset at part) part) → IsCodePart bytes q offset (written_method r m) (record { debug = debug_offset at part; text = item_text (debug_offset at part) part; lines = part.lines })
    method_part m offset at part fit named few_debug (Bodiless e c l) s = no_code bytes q offset at (written_method r m) part c l s
    method_part m offset at part fit named few_debug (Far body position e far c l) s = absurd (none_far p i few h entries body position (coded m body e fit.code).body (fit.used body e) (subst LaysOutMethod (ap (option_map (new_body r)) e) fit.lays) far)
    method_part m offset at part fit named few_debug (Laid body layout e laid c l) s = some_code m body layout offset at part fit e laid c l few_debug (named body e) s
