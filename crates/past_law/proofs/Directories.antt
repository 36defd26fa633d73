-- What a directory of annotations takes from the items that are left.
use Rattle.std.proofs.Common.{◌≡◌, ◌≤◌, ◌<◌, ◌⊎◌, inl, inr, ℕ, zero, suc, ◌+◌, ◌*◌, eqb, false, List, [], ◌∷◌, ◌++◌, length, Option, Some, None, Result, Ok, refl, sym, ap, ◌∙◌, arith}
use Rattle.std.specs.Prelude.{slice_index}
use Rattle.dex_base.specs.Reading.{◌>>=◌}
use Rattle.dex_base.specs.Word.{Is32, u32_at}
use Rattle.program_model.specs.declared.limits.Counted.TheVariants.{Items}
use Rattle.program_model.specs.declared.program.Field.{Field}
use Rattle.program_model.specs.declared.program.Method.{Method}
use Rattle.program_model.specs.declared.program.Program.{Program}
use Rattle.program_model.specs.declared.value.Mark.{Mark}
use Rattle.dex_pools.specs.declared.fault.PoolFault.TheVariants as pool
use Rattle.dex_pools.specs.declared.fault.Table.TheVariants as table
use Rattle.dex_defs.specs.ClassDefs.{Def}
use Rattle.dex_defs.specs.Faults.{pairs_before}
use Rattle.dex_defs.specs.Limits.{IsItem, SetBy, RefsBy}
use Rattle.dex_defs.specs.Limits as limits
use Rattle.dex_defs.specs.Places.{HasDef, Leads, HasDirectory, DirectoryCounts, InList, PairStands}
use Rattle.dex_read.specs.declared.class_data.Listed.{Listed}
use Rattle.dex_read.specs.declared.class_data.Members.{Members}
use Rattle.dex_read.specs.declared.fault.DexFault.{DexFault}
use Rattle.dex_read.specs.declared.fault.DexFault.TheVariants as dex
use Rattle.dex_read.specs.ClassData.{ascends_at, place_in}
use Rattle.dex_read.specs.Classes.{marked_at}
use Rattle.dex_read.specs.Directory.{Marked, set_at, pair_at, found_at, named_at, with_marks, with_own_marks, with_parameter_marks, mark_field, mark_method, mark_parameters, marked, directory_at}
use Rattle.dex_read.specs.Steps.{change_at, steps}
use Rattle.dex_read.specs.Tables.{sizes_in}
use Rattle.file_laws.proofs.Words.{finds_word}
use Rattle.spelled_law.proofs.Directories.{founds_named}
use Rattle.refused_law.proofs.Failing.{sound, fails_with, unless, fails_next}
use Rattle.past_law.proofs.Names.{sort_of, owner_of, class_in}
use Rattle.past_law.proofs.Plain.{plain_dex_base, plain_need}
use Rattle.past_law.proofs.Sets.{InSet, InRefs, takes_set, takes_sets}
use Rattle.past_law.proofs.Taking.{limit_of_dex, Plain, Takes, takes_none, plain_next, takes_next, takes_then, takes_wider, takes_either, OneOf, takes_steps}

-- ---- pairs

plain_found : (class i : ℕ) (o : Option ℕ) → Plain limit_of_dex (found_at class i o)
plain_found class i None = fails_with (dex.Member class i) refl
plain_found class i (Some k) = sound k

plain_named : (bytes : List ℕ) (class size : ℕ) (listed : List Listed) (at i before : ℕ) → Plain limit_of_dex (named_at bytes class size listed at i before)
unfolding named_at pair_at ascends_at
plain_named bytes class size listed at i before =
    fails_next (fails_next (plain_dex_base (u32_at bytes (at + 8 * i))) (λ number _. fails_next (plain_dex_base (u32_at bytes (at + 8 * i + 4))) (λ offset _.
    unless (dex.Pool (pool.Index (at + 8 * i) number size)) (λ _. refl) (λ _. sound (number, offset))))) (λ pair _.
    fails_next (unless (dex.Pool (pool.Order table.Members i)) (λ _. refl) (λ _. sound tt)) (λ order _.
    fails_next (plain_found class i (place_in pair.0 listed)) (λ found _. sound (found, pair))))

-- the numbers that name a set of a member, and that of a class
abbrev of_pair : ℕ → ℕ → List ℕ
of_pair class number = class ∷ number ∷ []

pair_same : (class m n : ℕ) → of_pair class m ≡ of_pair class n → m ≡ n
pair_same class m n e = ap (λ (o : List ℕ). slice_index o 1) e

-- sets of members from a number on, and lists of sets of parameters
abbrev InMembers : ℕ → ℕ → List ℕ → Type 0
InMembers class low w = (n : ℕ) × (low ≤ n) × InSet (of_pair class n) w

abbrev InParameters : ℕ → List ℕ → Type 0
InParameters class w = (n : ℕ) × InRefs (of_pair class n) w

-- what is counted in the directory of a class
abbrev pub InDirectory : ℕ → List ℕ → Type 0
InDirectory class w = ((sort_of w ≡ 2) ⊎ (sort_of w ≡ 3)) × (class_in (owner_of w) ≡ class)

not_both_sorts : (w : List ℕ) → sort_of w ≡ 3 → sort_of w ≡ 2 → ⊥
not_both_sorts w a b = omega (arith, a, b)

own_not_member : (class n : ℕ) (w : List ℕ) → owner_of w ≡ class ∷ [] → owner_of w ≡ of_pair class n → ⊥
own_not_member class n w a b = let same : 1 ≡ 2 = ap (λ (o : List ℕ). length o) (sym a ∙ b) in omega (arith, same)

own_not_parameter : (class i n : ℕ) (w : List ℕ) → owner_of w ≡ class ∷ [] → owner_of w ≡ i ∷ of_pair class n → ⊥
own_not_parameter class i n w a b = let same : 1 ≡ 3 = ap (λ (o : List ℕ). length o) (sym a ∙ b) in omega (arith, same)

member_not_parameter : (class m i n : ℕ) (w : List ℕ) → owner_of w ≡ of_pair class m → owner_of w ≡ i ∷ of_pair class n → ⊥
member_not_parameter class m i n w a b = let same : 2 ≡ 3 = ap (λ (o : List ℕ). length o) (sym a ∙ b) in omega (arith, same)

member_apart : (class m : ℕ) (w : List ℕ) → InSet (of_pair class m) w → InParameters class w → ⊥
member_apart class m w a (n, inl b) = not_both_sorts w b.0 a.0
member_apart class m w a (n, inr b) = member_not_parameter class m b.0 n w a.1 b.1.1

own_apart : (class low : ℕ) (w : List ℕ) → InSet (class ∷ []) w → InMembers class low w ⊎ InParameters class w → ⊥
own_apart class low w a (inl (n, more, b)) = own_not_member class n w a.1 b.1
own_apart class low w a (inr (n, inl b)) = not_both_sorts w b.0 a.0
own_apart class low w a (inr (n, inr b)) = own_not_parameter class b.0 n w a.1 b.1.1

own_there : (class : ℕ) (w : List ℕ) → InSet (class ∷ []) w → InDirectory class w
own_there class w h = (inl h.0, ap class_in h.1)

member_there : (class n : ℕ) (w : List ℕ) → InSet (of_pair class n) w → InDirectory class w
member_there class n w h = (inl h.0, ap class_in h.1)

parameter_there : (class n : ℕ) (w : List ℕ) → InRefs (of_pair class n) w → InDirectory class w
parameter_there class n w (inl h) = (inr h.0, ap class_in h.1)
parameter_there class n w (inr h) = (inl h.1.0, ap class_in h.1.1)

all_there : (class low : ℕ) (w : List ℕ) → InMembers class low w ⊎ InParameters class w → InDirectory class w
all_there class low w (inl h) = member_there class h.0 w h.2
all_there class low w (inr h) = parameter_there class h.0 w h.1

module _ (bytes : List ℕ) (p : Program) (class : ℕ) (def : Def) (has_def : HasDef bytes class def) (at : ℕ) (leads : Leads def.annotations at) where
  directory : HasDirectory bytes class at
  directory = record { def = def; has = has_def; leads = leads }

  module _ (fields methods parameters : ℕ) (counts : DirectoryCounts bytes at fields methods parameters) where
    abbrev stands : (which i base : ℕ) → base ≡ at + 16 + 8 * pairs_before which fields methods → InList fields methods parameters which (pairs_before which fields methods + i) → PairStands bytes class which (base + 8 * i)
    stands which i base first inside = record { directory = at; has = directory; fields = fields; methods = methods; parameters = parameters; counts = counts; i = pairs_before which fields methods + i; inside = inside; place = omega (arith, first) }

    -- the set that a pair of a member names, and the list that one of parameters names
    set_by : (which i base before size : ℕ) (listed : List Listed) (named : ℕ × (ℕ × ℕ)) → which < 2 → base ≡ at + 16 + 8 * pairs_before which fields methods → InList fields methods parameters which (pairs_before which fields methods + i)
        → named_at bytes class size listed base i before ≡ Ok named → 0 < named.1.1 → SetBy bytes (of_pair class (pairs_before which fields methods + i)) named.1.1
    set_by which i base before size listed named low first inside h some = let is = (founds_named bytes class size listed base i before).found named h in
        limits.OfMember class which (base + 8 * i) named.1.1 named.1.1 (stands which i base first inside) low is.offset (some, refl)

    refs_by : (i base before size : ℕ) (listed : List Listed) (named : ℕ × (ℕ × ℕ)) → base ≡ at + 16 + 8 * pairs_before 2 fields methods → InList fields methods parameters 2 (pairs_before 2 fields methods + i)
        → named_at bytes class size listed base i before ≡ Ok named → 0 < named.1.1 → RefsBy bytes (of_pair class (pairs_before 2 fields methods + i)) named.1.1
    refs_by i base before size listed named first inside h some = let is = (founds_named bytes class size listed base i before).found named h in
        limits.Pair class (base + 8 * i) named.1.1 named.1.1 (stands 2 i base first inside) is.offset (some, refl)

    sets_apart : (before i j : ℕ) (w : List ℕ) → InSet (of_pair class (before + i)) w → InSet (of_pair class (before + j)) w → i ≡ j
    sets_apart before i j w a b = let same = pair_same class (before + i) (before + j) (sym a.1 ∙ b.1) in omega (arith, same)

    refs_apart : (before i j : ℕ) (w : List ℕ) → InRefs (of_pair class (before + i)) w → InRefs (of_pair class (before + j)) w → i ≡ j
    refs_apart before i j w (inl a) (inl b) = let same = pair_same class (before + i) (before + j) (sym a.1 ∙ b.1) in omega (arith, same)
    refs_apart before i j w (inl a) (inr b) = absurd (not_both_sorts w a.0 b.1.0)
    refs_apart before i j w (inr a) (inl b) = absurd (not_both_sorts w b.0 a.1.0)
    refs_apart before i j w (inr a) (inr b) = let same : before + i ≡ before + j = ap (λ (o : List ℕ). slice_index o 2) (sym a.1.1 ∙ b.1.1) in omega (arith, same)

    -- ---- the three lists

    module _ (m : Members) where
      takes_fields : (fs : List Field) (left : ℕ) → Takes limit_of_dex Items (IsItem bytes) (OneOf (λ i. InSet (of_pair class (0 + i))) 0 fields) left (λ (s : List Field × (ℕ × ℕ)). s.1.1)
          (steps (mark_field bytes p class (m.statics ++ m.instances) (at + 16)) 0 fields (fs, (0, left)))
      unfolding mark_field
      takes_fields fs left = takes_steps (λ i. InSet (of_pair class (0 + i))) (sets_apart 0) (mark_field bytes p class (m.statics ++ m.instances) (at + 16)) (λ (s : List Field × (ℕ × ℕ)). s.1.1) (λ i s. Unit {0}) (λ i s t good h. tt) fields
          (λ i s less good. plain_next (plain_named bytes class (sizes_in p).fields (m.statics ++ m.instances) (at + 16) i s.1.0) (λ named h.
          takes_then (takes_set bytes p (of_pair class (0 + i)) named.1.1 s.1.1 (set_by 0 i (at + 16) s.1.0 (sizes_in p).fields (m.statics ++ m.instances) named (omega arith) (omega arith) (omega (arith, less)) h)) (λ marks _.
          takes_none marks.1 _ (change_at (with_marks marks.0) named.0 s.0, (named.1.0, marks.1)) (omega arith))))
          0 fields (fs, (0, left)) (omega arith) tt

      takes_methods : (ms : List Method) (left : ℕ) → Takes limit_of_dex Items (IsItem bytes) (OneOf (λ i. InSet (of_pair class (fields + i))) 0 methods) left (λ (s : List Method × (ℕ × ℕ)). s.1.1)
          (steps (mark_method bytes p class (m.directs ++ m.virtuals) (at + 16 + 8 * fields)) 0 methods (ms, (0, left)))
      unfolding mark_method
      takes_methods ms left = takes_steps (λ i. InSet (of_pair class (fields + i))) (sets_apart fields) (mark_method bytes p class (m.directs ++ m.virtuals) (at + 16 + 8 * fields)) (λ (s : List Method × (ℕ × ℕ)). s.1.1) (λ i s. Unit {0})
          (λ i s t good h. tt) methods
          (λ i s less good. plain_next (plain_named bytes class (sizes_in p).methods (m.directs ++ m.virtuals) (at + 16 + 8 * fields) i s.1.0) (λ named h.
          takes_then (takes_set bytes p (of_pair class (fields + i)) named.1.1 s.1.1
          (set_by 1 i (at + 16 + 8 * fields) s.1.0 (sizes_in p).methods (m.directs ++ m.virtuals) named (omega arith) (omega arith) ((omega arith), omega (arith, less)) h)) (λ marks _.
          takes_none marks.1 _ (change_at (with_own_marks marks.0) named.0 s.0, (named.1.0, marks.1)) (omega arith))))
          0 methods (ms, (0, left)) (omega arith) tt

      takes_parameters : (ms : List Method) (left : ℕ) → Takes limit_of_dex Items (IsItem bytes) (OneOf (λ i. InRefs (of_pair class (fields + methods + i))) 0 parameters) left (λ (s : List Method × (ℕ × ℕ)). s.1.1)
          (steps (mark_parameters bytes p class (m.directs ++ m.virtuals) (at + 16 + 8 * fields + 8 * methods)) 0 parameters (ms, (0, left)))
      unfolding mark_parameters
      takes_parameters ms left = takes_steps (λ i. InRefs (of_pair class (fields + methods + i))) (refs_apart (fields + methods)) (mark_parameters bytes p class (m.directs ++ m.virtuals) (at + 16 + 8 * fields + 8 * methods))
          (λ (s : List Method × (ℕ × ℕ)). s.1.1) (λ i s. Unit {0}) (λ i s t good h. tt) parameters
          (λ i s less good. plain_next (plain_named bytes class (sizes_in p).methods (m.directs ++ m.virtuals) (at + 16 + 8 * fields + 8 * methods) i s.1.0) (λ named h.
          takes_then (takes_sets bytes p (of_pair class (fields + methods + i)) named.1.1 s.1.1
          (refs_by i (at + 16 + 8 * fields + 8 * methods) s.1.0 (sizes_in p).methods (m.directs ++ m.virtuals) named (omega arith) ((omega arith), omega (arith, less)) h)) (λ marks _.
          takes_none marks.1 _ (change_at (with_parameter_marks marks.0) named.0 s.0, (named.1.0, marks.1)) (omega arith))))
          0 parameters (ms, (0, left)) (omega arith) tt

      -- the numbers of fields are below those of methods
      fields_apart : (w : List ℕ) → OneOf (λ i. InSet (of_pair class (0 + i))) 0 fields w → InMembers class fields w ⊎ InParameters class w → ⊥
      fields_apart w a (inl (n, more, b)) = let same = pair_same class (0 + a.place) n (sym a.is.1 ∙ b.1) in let less = a.high in omega (arith, same, less, more)
      fields_apart w a (inr b) = member_apart class (0 + a.place) w a.is b

      abbrev methods_read : (read : List Mark × ℕ) (fs : List Field × (ℕ × ℕ)) (ms : List Method) → Result Marked DexFault
      methods_read read fs ms = steps (mark_method bytes p class (m.directs ++ m.virtuals) (at + 16 + 8 * fields)) 0 methods (ms, (0, fs.1.1)) >>= λ own.
          steps (mark_parameters bytes p class (m.directs ++ m.virtuals) (at + 16 + 8 * fields + 8 * methods)) 0 parameters (own.0, (0, own.1.1)) >>= λ all. Ok (marked read.0 fs.0 all.0 all.1.1)

      takes_of_methods : (read : List Mark × ℕ) (fs : List Field × (ℕ × ℕ)) (ms : List Method) → Takes limit_of_dex Items (IsItem bytes) (λ w. InMembers class fields w ⊎ InParameters class w) fs.1.1 (λ (r : Marked). r.left) (methods_read read fs ms)
      takes_of_methods read fs ms =
          takes_next (takes_methods ms fs.1.1) (λ own _.
          takes_wider (takes_then (takes_parameters own.0 own.1.1) (λ all _. takes_none all.1.1 _ (marked read.0 fs.0 all.0 all.1.1) (omega arith))) (λ w o. (fields + methods + o.place, o.is)))
          (λ w a b. member_apart class (fields + a.place) w a.is b) (λ w a. inl (fields + a.place, omega arith, a.is)) (λ w b. inr b)

      -- all three behind the directory's own set
      takes_lists : (offset : ℕ) → Is32 bytes at offset → (fs : List Field) (ms : List Method) (left : ℕ)
          → Takes limit_of_dex Items (IsItem bytes) (InDirectory class) left (λ (r : Marked). r.left)
          (set_at bytes p offset left >>= λ marks. steps (mark_field bytes p class (m.statics ++ m.instances) (at + 16)) 0 fields (fs, (0, marks.1)) >>= λ own_fields. methods_read marks own_fields ms)
      takes_lists offset is fs ms left =
          takes_next (takes_set bytes p (class ∷ []) offset left (λ some. limits.OfClass class at offset offset directory is (some, refl))) (λ marks _.
          takes_next {C = λ w. InMembers class 0 w ⊎ InParameters class w} (takes_fields fs marks.1) (λ own_fields _. takes_of_methods marks own_fields ms) fields_apart
          (λ w a. inl (0 + a.place, omega arith, a.is)) later)
          (own_apart class 0) (own_there class) (all_there class 0)
        where
          later : (w : List ℕ) → InMembers class fields w ⊎ InParameters class w → InMembers class 0 w ⊎ InParameters class w
          later w (inl h) = inl (h.0, omega arith, h.2)
          later w (inr h) = inr h

  pub takes_directory : (m : Members) (fs : List Field) (ms : List Method) (left : ℕ) → Takes limit_of_dex Items (IsItem bytes) (InDirectory class) left (λ (r : Marked). r.left) (directory_at bytes p class m at fs ms left)
  unfolding directory_at
  takes_directory m fs ms left =
      plain_next (plain_need bytes at 16) (λ begins _.
      plain_next (plain_dex_base (u32_at bytes at)) (λ offset h0.
      plain_next (plain_dex_base (u32_at bytes (at + 4))) (λ fields h1.
      plain_next (plain_dex_base (u32_at bytes (at + 8))) (λ methods h2.
      plain_next (plain_dex_base (u32_at bytes (at + 12))) (λ parameters h3.
      let counts : DirectoryCounts bytes at fields methods parameters = record { is_fields = (finds_word bytes (at + 4)).found fields h1; is_methods = (finds_word bytes (at + 8)).found methods h2; is_parameters = (finds_word bytes (at + 12)).found parameters h3 } in
      plain_next (plain_need bytes at (16 + 8 * fields + 8 * methods + 8 * parameters)) (λ whole _.
      takes_lists fields methods parameters counts m offset ((finds_word bytes at).found offset h0) fs ms left))))))

positive_of : (n : ℕ) → eqb n 0 ≡ false → 0 < n
positive_of zero e = absurd cc
positive_of (suc n) e = omega arith

pub takes_marked : (bytes : List ℕ) (p : Program) (class : ℕ) (def : Def) → HasDef bytes class def → (m : Members) (fs : List Field) (ms : List Method) (left : ℕ)
    → Takes limit_of_dex Items (IsItem bytes) (InDirectory class) left (λ (r : Marked). r.left) (marked_at bytes p class m def.annotations fs ms left)
unfolding marked_at
takes_marked bytes p class def has m fs ms left = takes_either (λ e. takes_none left _ (record { marks = []; fields = fs; methods = ms; left = left }) (omega arith))
    (λ e. takes_directory bytes p class def has def.annotations (positive_of def.annotations e, refl) m fs ms left)
