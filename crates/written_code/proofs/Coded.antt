-- Each method of a written file is read with its code and its lines.
use Rattle.std.proofs.Common.{◌≡◌, ◌<◌, ◌≤◌, ◌+◌, ◌^◌, ℕ, zero, suc, Bool, true, List, [], ◌∷◌, ◌++◌, length, map, take, drop, Option, Some, None, refl, sym, ap, subst, ◌∙◌, arith, length-append}
use Rattle.std.specs.Prelude.{not, ◌&&◌, if◌then◌else◌}
use Rattle.std.specs.List.{AllByRecursion}
use Rattle.std.specs.Option.{option_map}
use Rattle.std.proofs.lemmas.Bool.{and_parts, ne_eqb}
use Rattle.program_model.specs.declared.pass.Renumber.{Renumber}
use Rattle.program_model.specs.declared.body.Body.{Body}
use Rattle.program_model.specs.declared.program.Method.{Method}
use Rattle.program_model.specs.declared.program.Class.{Class}
use Rattle.program_model.specs.declared.program.Program.{Program}
use Rattle.program_model.specs.BodyRules.{body_fits}
use Rattle.program_model.specs.LineRules.{lines_fit}
use Rattle.program_model.specs.MemberRules.{code_fits, lacks_code, frame_fits}
use Rattle.dex_pools.specs.declared.interner.Interner.{Interner}
use Rattle.dex_pools.specs.Interned.{IsInterned}
use Rattle.code_write.specs.Code.{spots_of}
use Rattle.dex_write.specs.declared.ordered.MethodPart.{MethodPart}
use Rattle.dex_write.specs.Numbers.{words}
use Rattle.dex_write.specs.Codes.{IsPart, IsCoded, IsCodedIn, Bodiless, Far, Laid, code_offset, code_behind, debug_offset, with_debug}
use Rattle.dex_defs.specs.Arranged.{Both}
use Rattle.dex_defs.specs.ClassDefs.{HasCode}
use Rattle.dex_defs.specs.LaysOut.{LaysOutMethod}
use Rattle.dex_defs.specs.Valid.{CodePart, IsCodePart, parameters_of}
use Rattle.dex_defs.specs.Written.{new_insn, new_body, written_method, written_by}
use Rattle.write_laws.specs.Used.{IsShort}
use Rattle.write_laws.specs.Listing.{method_entries}
use Rattle.write_laws.specs.Placing.{item_text, item_texts, code_offsets, line_offsets}
use Rattle.write_laws.proofs.Coded.{item_long}
use Rattle.written_code.proofs.Forms.{Renamed}
use Rattle.written_file.proofs.Members.{method_or, method_at}
use Rattle.written_file.proofs.Standing.{Stands, Unplaced, Placed, stands_few}
use Rattle.written_code.proofs.ReadLines.{none_fit, code_back}
use Rattle.written_code.proofs.Fitting.{FewEntries, none_far}
use Rattle.written_code.proofs.Codes.{FitMethod, method_part}
use Rattle.written_code.proofs.AllCodes.{GoodMethod, body_named, code_body}

map_size : {X Y : Type 0} (f : X → Y) (xs : List X) → length (map f xs) ≡ length xs
map_size f [] = refl
map_size f (x ∷ xs) = ap suc (map_size f xs)

some_body : (a b : Body) → Some a ≡ Some b → a ≡ b
some_body a b e = cc

none_some : (b : Body) → None ≡ Some b → ⊥
none_some b e = cc

-- code that is written is some
text_some : (debug : ℕ) (part : MethodPart) → 16 ≤ length part.code → item_text debug part ≡ [] → ⊥
unfolding with_debug words
text_some debug part long e =
    let is : with_debug debug part.code ≡ [] = sym (ap (λ (t : Bool). if t then [] else with_debug debug part.code) (ne_eqb (length part.code) 0 (λ z. omega (arith, z, long)))) ∙ e in
    let none : length (with_debug debug part.code) ≡ 0 = ap (λ (l : List ℕ). length l) is in
    omega (arith, none, length-append (take 8 part.code) (words (debug ∷ []) ++ drop 12 part.code), length-append (words (debug ∷ [])) (drop 12 part.code))

module _ (p : Program) (i : Interner) (few : IsShort p) (h : IsInterned p i) (fit : FewEntries p (written_by i p)) (bytes : List ℕ) (few_file : length bytes < 2 ^ 32) where
  abbrev q : Program
  q = written_by i p

  abbrev r : Renumber
  r = i.numbers

  no_body : (m : Method) (offset debug : ℕ) (part : MethodPart) → FitMethod p i few h fit m → IsCoded p r m part.code part.lines → Stands bytes offset (item_text debug part) → offset ≡ 0 → m.body ≡ None
  no_body m offset debug part good (Bodiless e c l) s z = e
  no_body m offset debug part good (Far body position e far c l) s z = absurd (none_far p i few h fit body position (code_body p i few h fit m body e good.code) (good.used body e) (subst LaysOutMethod (ap (option_map (new_body r)) e) good.lays) far)
  no_body m offset debug part good (Laid body layout e laid c l) (Unplaced a t) z = absurd (text_some debug part (omega (arith, ap (λ (x : List ℕ). length x) c, item_long r body (spots_of layout) 0)) t)
  no_body m offset debug part good (Laid body layout e laid c l) (Placed a t there) z = absurd (omega (arith, a, z))

  no_lines : (m : Method) → m.body ≡ None → code_fits p m m.body ≡ true → m.lines ≡ []
  no_lines m e c =
      let is : code_fits p m None ≡ true = subst (λ o. code_fits p m o ≡ true) e c in
      none_fit m.lines (and_parts (lacks_code m.flags) (lines_fit 0 m.lines) is).1

  lines_of_body : (m : Method) (b : Body) → m.body ≡ Some b → code_fits p m m.body ≡ true → lines_fit (length b.insns) m.lines ≡ true
  lines_of_body m b e c =
      let is : code_fits p m (Some b) ≡ true = subst (λ o. code_fits p m o ≡ true) e c in
      let a = and_parts (not (lacks_code m.flags)) (frame_fits p m b && (body_fits p b && lines_fit (length b.insns) m.lines)) is in
      let d = and_parts (frame_fits p m b) (body_fits p b && lines_fit (length b.insns) m.lines) a.1 in
      (and_parts (body_fits p b) (lines_fit (length b.insns) m.lines) d.1).1

  new_lines : (m : Method) (body : Body) → code_fits p m m.body ≡ true → (written_method r m).body ≡ Some body → lines_fit (length body.insns) m.lines ≡ true
  new_lines m body c e = by m.body refl
    where
      by : (o : Option Body) → m.body ≡ o → lines_fit (length body.insns) m.lines ≡ true
      by None n = absurd (none_some body (sym (ap (option_map (new_body r)) n) ∙ e))
      by (Some b) n =
          let same : new_body r b ≡ body = some_body (new_body r b) body (sym (ap (option_map (new_body r)) n) ∙ e) in
          let many : length b.insns ≡ length body.insns = sym (map_size (new_insn r) b.insns) ∙ ap (λ (x : Body). length x.insns) same in
          subst (λ k. lines_fit k m.lines ≡ true) many (lines_of_body m b n c)

  method_read : (m : Method) (offset at : ℕ) (part : MethodPart) → FitMethod p i few h fit m → parameters_of q (written_method r m) < 2 ^ 32 → ((b : Body) → m.body ≡ Some b → AllByRecursion (λ x. AllByRecursion (λ y. Renamed r.types.items y.kind 65536) x.handlers) b.regions) → IsCoded p r m part.code part.lines
      → Stands bytes offset (item_text (debug_offset at part) part) → Stands bytes (debug_offset at part) part.lines → HasCode bytes (length q.types) offset (written_method r m).body m.lines
  method_read m offset at part good parameters named coded s lines =
      by offset (no_body m offset (debug_offset at part) part good coded s) (method_part p i few h fit bytes m offset at part good named (stands_few bytes (debug_offset at part) part.lines few_file lines) coded s)
    where
      own : CodePart
      own = record { debug = debug_offset at part; text = item_text (debug_offset at part) part; lines = part.lines }

      by : (k : ℕ) → (k ≡ 0 → m.body ≡ None) → IsCodePart bytes q k (written_method r m) own → HasCode bytes (length q.types) k (written_method r m).body m.lines
      by zero none code = subst (λ o. HasCode bytes (length q.types) 0 (option_map (new_body r) o) m.lines) (sym (none refl)) (no_lines m (none refl) good.code)
      by (suc k) none code = code_back bytes q k (written_method r m) own few_file parameters (λ body e. new_lines m body good.code e) lines code

  pub methods_read : (c : Class) (code_at lines_at : ℕ) (ms : List MethodPart) → AllByRecursion (IsPart p r c) ms → AllByRecursion (GoodMethod p i few h fit c) ms → AllByRecursion (λ m. parameters_of q (written_method r (method_at c m.place)) < 2 ^ 32) ms
      → Both (Stands bytes) (code_offsets code_at ms) (item_texts lines_at ms) → Both (Stands bytes) (line_offsets lines_at ms) (map (λ m. m.lines) ms)
      → Both (λ e m. HasCode bytes (length q.types) e.code m.body m.lines) (method_entries c code_at ms) (map (λ m. written_method r (method_at c m.place)) ms)
  methods_read c code_at lines_at [] parts good parameters codes lines = tt
  methods_read c code_at lines_at (part ∷ ms) parts good parameters codes lines =
      let g : GoodMethod p i few h fit c part = good.0 in
      let same : method_at c part.place ≡ g.m = ap method_or g.is in
      let coded : IsCoded p r g.m part.code part.lines = subst (λ o. IsCodedIn p r o part.code part.lines) g.is parts.0 in
      let low : parameters_of q (written_method r g.m) < 2 ^ 32 = subst (λ m. parameters_of q (written_method r m) < 2 ^ 32) same parameters.0 in
      let one : HasCode bytes (length q.types) (code_offset code_at part) (written_method r g.m).body g.m.lines =
      method_read g.m (code_offset code_at part) lines_at part g.good low (λ b e. body_named p i few h fit b (code_body p i few h fit g.m b e g.good.code) (g.good.used b e)) coded codes.0 lines.0 in
      (subst (λ m. HasCode bytes (length q.types) (code_offset code_at part) (written_method r m).body m.lines) (sym same) one, methods_read c (code_behind code_at part) (lines_at + length part.lines) ms parts.1 good.1 parameters.1 codes.1 lines.1)
