-- What stands where in a whole file: the header, the tables, the runs and the map.
use Rattle.std.proofs.Common.{◌≡◌, ◌≤◌, ◌+◌, ◌-◌, ◌*◌, ℕ, List, [], ◌∷◌, ◌++◌, length, replicate, refl, ap, ◌∙◌, length-append, arith}
use Rattle.std.proofs.lemmas.List.{length-replicate}
use Rattle.sha1.specs.Sha1.{sha1}
use Rattle.dex_base.specs.Adler.{adler_of}
use Rattle.program_model.specs.declared.program.Version.{Version}
use Rattle.program_model.specs.declared.program.Version.TheVariants.{V035, V037}
use Rattle.dex_write.specs.declared.file.Counts.{Counts}
use Rattle.dex_write.specs.declared.run.Run.{Run}
use Rattle.dex_write.specs.Numbers.{words}
use Rattle.dex_write.specs.Runs.{runs_text}
use Rattle.dex_write.specs.File.{data_at, header_words, map_place, map_text, map_words, ends_behind, body_text, file_text, magic_of}
use Rattle.dex_defs.specs.Here.{Here, AreZeros}
use Rattle.write_laws.proofs.Here.{here_left, here_right, here_is, here_whole}
use Rattle.write_laws.proofs.Numbers.{words_length, sha1_length}
use Rattle.write_laws.proofs.Runs.{RunsStand, RunsAscend, runs_stand, runs_length, AllRuns}

magic_length : (v : Version) → length (magic_of v) ≡ 8
magic_length V035 = refl
magic_length V037 = refl

-- the size of the file
abbrev pub size_of : Counts → List Run → ℕ
size_of c runs = map_place c runs + length (map_text c runs)

header_length : (c : Counts) (size at : ℕ) → length (header_words c size at) ≡ 20
unfolding header_words
header_length c size at = refl

-- what stands where behind the 32 bytes at the front
pub record FileStands (c : Counts) (entries : List ℕ) (runs : List Run) (bytes : List ℕ) : Type 0 where
  pub header : Here bytes 32 (words (header_words c (size_of c runs) (map_place c runs)))
  pub tables : Here bytes 112 (words entries)
  pub all : RunsStand bytes (data_at c) runs
  pub zeros : AreZeros bytes (ends_behind (data_at c) runs) (map_place c runs)
  pub map : Here bytes (map_place c runs) (words (map_words c runs (map_place c runs)))
  pub size : length bytes ≡ size_of c runs

body_here : (v : Version) (body : List ℕ) → Here (file_text v body) 32 body
unfolding file_text
body_here v body =
    let bytes : List ℕ = magic_of v ++ (words (adler_of (sha1 body ++ body) ∷ []) ++ (sha1 body ++ body)) in
    let one : Here bytes 8 (words (adler_of (sha1 body ++ body) ∷ []) ++ (sha1 body ++ body)) = here_is bytes (0 + length (magic_of v)) 8 _ (omega (arith, magic_length v)) (here_right bytes 0 (magic_of v) _ (here_whole bytes)) in
    let two : Here bytes 12 (sha1 body ++ body) = here_is bytes (8 + length (words (adler_of (sha1 body ++ body) ∷ []))) 12 (sha1 body ++ body) (omega (arith, words_length (adler_of (sha1 body ++ body) ∷ []))) (here_right bytes 8 (words (adler_of (sha1 body ++ body) ∷ [])) (sha1 body ++ body) one) in
    here_is bytes (12 + length (sha1 body)) 32 body (omega (arith, sha1_length body)) (here_right bytes 12 (sha1 body) body two)

text_length : (v : Version) (body : List ℕ) → length (file_text v body) ≡ 32 + length body
unfolding file_text
text_length v body = omega (arith, length-append (magic_of v) (words (adler_of (sha1 body ++ body) ∷ []) ++ (sha1 body ++ body)), length-append (words (adler_of (sha1 body ++ body) ∷ [])) (sha1 body ++ body), length-append (sha1 body) body, words_length (adler_of (sha1 body ++ body) ∷ []), sha1_length body, magic_length v)

body_stands : (c : Counts) (tables : List ℕ) (runs : List Run) (bytes : List ℕ) → data_at c ≡ 112 + 4 * length tables → RunsAscend (data_at c) runs → Here bytes 32 (body_text c tables runs) → length bytes ≡ 32 + length (body_text c tables runs) → FileStands c tables runs bytes
unfolding body_text
body_stands c tables runs bytes begin up h long =
    let at : ℕ = map_place c runs in
    let end : ℕ = ends_behind (data_at c) runs in
    let head : List ℕ = words (header_words c (size_of c runs) at) in
    let pad : List ℕ = replicate (at - end) 0 in
    let rest : List ℕ = pad ++ map_text c runs in
    let text : List ℕ = runs_text (data_at c) runs in
    let head_length : length head ≡ 80 = words_length (header_words c (size_of c runs) at) ∙ ap (λ n. 4 * n) (header_length c (size_of c runs) at) in
    let one : Here bytes 112 (words tables ++ (text ++ rest)) = here_is bytes (32 + length head) 112 _ (omega (arith, head_length)) (here_right bytes 32 head (words tables ++ (text ++ rest)) h) in
    let two : Here bytes (data_at c) (text ++ rest) = here_is bytes (112 + length (words tables)) (data_at c) _ (omega (arith, words_length tables, begin)) (here_right bytes 112 (words tables) (text ++ rest) one) in
    let all : AllRuns bytes (data_at c) runs rest = runs_stand bytes (data_at c) runs rest up two in
    let low : end ≤ at = omega arith in
    let three : Here bytes at (map_text c runs) = here_is bytes (end + length pad) at (map_text c runs) (omega (arith, low, length-replicate {A = ℕ} (at - end) 0)) (here_right bytes end pad (map_text c runs) all.behind) in
    record {
      header = here_left bytes 32 head (words tables ++ (text ++ rest)) h;
      tables = here_left bytes 112 (words tables) (text ++ rest) one;
      all = all.stand;
      zeros = record { order = low; zeros = here_left bytes end pad (map_text c runs) all.behind };
      map = three;
      size = long ∙ omega (arith, low, head_length, begin, words_length tables, runs_length (data_at c) runs up, length-replicate {A = ℕ} (at - end) 0, length-append head (words tables ++ (text ++ rest)), length-append (words tables) (text ++ rest), length-append text rest, length-append pad (map_text c runs));
    }

pub file_stands : (v : Version) (c : Counts) (tables : List ℕ) (runs : List Run) → data_at c ≡ 112 + 4 * length tables → RunsAscend (data_at c) runs → FileStands c tables runs (file_text v (body_text c tables runs))
file_stands v c tables runs begin up = body_stands c tables runs (file_text v (body_text c tables runs)) begin up (body_here v (body_text c tables runs)) (text_length v (body_text c tables runs))
