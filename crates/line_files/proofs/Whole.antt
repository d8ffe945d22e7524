-- The standings of a file, put together from its lines and its findings.
use Rattle.std.proofs.Common.{◌≡◌, ℕ, ◌++◌, List, map, ap, ◌∙◌}
use Rattle.nest_core.specs.Museum.{Museum}
use Rattle.posting_core.specs.Book.{Book}
use Rattle.hub_core.specs.Lines.{lines}
use Rattle.line_files.specs.declared.finding.Found.{Found}
use Rattle.line_files.specs.declared.progress.Progress.{Progress}
use Rattle.line_files.specs.Known.{file_messages, recorded}
use Rattle.line_files.specs.Standings.{compared, file_findings}
use Rattle.line_files.specs.Standings.{file_progress, findings, progress_of}
use Rattle.line_files.specs.Standings.{standings}

pub whole : (B : Book) (s : ℕ) (bytes : List ℕ) (S : Museum) (ls : List (List ℕ)) (p : Progress)
    (found seen named : List Found) → S ≡ B.museum → ls ≡ lines bytes
    → found ≡ findings S s (recorded B.posted) 1 ls → seen ≡ found → named ≡ found
    → p ≡ progress_of s (recorded B.posted ++ file_messages S s ls) seen
    → map (compared p) named ≡ standings B s bytes
whole B s bytes S ls p found seen named setup cut finds sees names goes =
    let them = recorded B.posted in
    let all : found ≡ file_findings B s bytes = finds
    ∙ (ap (λ (T : Museum). findings T s them 1 ls) setup
    ∙ ap (λ (l : List (List ℕ)). findings B.museum s them 1 l) cut) in
    let far : p ≡ file_progress B s bytes = goes
    ∙ (ap (λ (f : List Found). progress_of s (them ++ file_messages S s ls) f) (sees ∙ all)
    ∙ (ap (λ (T : Museum). progress_of s (them ++ file_messages T s ls) (file_findings B s bytes))
    setup
    ∙ ap (λ (l : List (List ℕ)).
    progress_of s (them ++ file_messages B.museum s l) (file_findings B s bytes)) cut)) in
    ap (λ (q : Progress). map (compared q) named) far
    ∙ ap (map (compared (file_progress B s bytes))) (names ∙ all)
