use Rattle.std.proofs.Common.{◌≡◌, ◌∙◌, ◌++◌, ℕ, List, ap, append_assoc}
use Rattle.std.specs.Prelude.{codes, decimal}
use Rattle.nest_core.specs.Museum.{Museum}
use Rattle.reports.specs.Texts.{place_text, station_text, thing_text}
use Rattle.page_core.specs.Escapes.{escaped}
use Rattle.page_core.proofs.histories.spot_text.Goals as goal

-- the values of a row, with the markup between them
abbrev row : (thing entry day place containers station n : List ℕ) → List ℕ
row thing entry day place containers station n =
    codes "[\"" ++ (thing ++ (codes "\"," ++ (entry ++ (codes ",\"" ++ (day ++ (codes "\",\""
    ++ (place ++ (codes "\",\"" ++ (containers ++ (codes "\",\"" ++ (station ++ (codes "\","
    ++ (n ++ codes "],\n")))))))))))))

-- the same as `format!` joins them: all but the last first
abbrev parts : (thing entry day place containers station n : List ℕ) → List ℕ
parts thing entry day place containers station n =
    codes "[\"" ++ ((thing ++ (codes "\"," ++ (entry ++ (codes ",\"" ++ (day ++ (codes "\",\""
    ++ (place ++ (codes "\",\"" ++ (containers ++ (codes "\",\"" ++ station))))))))))
    ++ (codes "\"," ++ (n ++ codes "],\n")))

joined : (t e d p c s n : List ℕ) → parts t e d p c s n ≡ row t e d p c s n
joined t e d p c s n =
    let end = codes "\"," ++ (n ++ codes "],\n") in
    ap (λ x. codes "[\"" ++ x)
    (append_assoc t _ end ∙ ap (λ x. t ++ (codes "\"," ++ x))
    (append_assoc e _ end ∙ ap (λ x. e ++ (codes ",\"" ++ x))
    (append_assoc d _ end ∙ ap (λ x. d ++ (codes "\",\"" ++ x))
    (append_assoc p _ end ∙ ap (λ x. p ++ (codes "\",\"" ++ x))
    (append_assoc c _ end)))))

same_values : (t t' e d d' p p' c c' s s' n n' : List ℕ) → t ≡ t' → d ≡ d' → p ≡ p' → c ≡ c'
    → s ≡ s' → n ≡ n' → row t e d p c s n ≡ row t' e d' p' c' s' n'
same_values t t' e d d' p p' c c' s s' n n' ts ds ps cs ss ns =
    ap (λ x. row x e d p c s n) ts
    ∙ (ap (λ x. row t' e x p c s n) ds
    ∙ (ap (λ x. row t' e d' x c s n) ps
    ∙ (ap (λ x. row t' e d' p' x s n) cs
    ∙ (ap (λ x. row t' e d' p' c' x n) ss
    ∙ ap (row t' e d' p' c' s') ns))))

pub returns : goal.returns
returns c =
    let new = c.args.new.now in
    let S = c.args.after.now.museum in
    let thing = c.in_ok-thing.ensures
    ∙ ap (λ (M : Museum). escaped (thing_text M new.thing)) c.setup-setup.ensures in
    let place = c.in_ok-place.ensures
    ∙ ap (λ (M : Museum). escaped (place_text M new.spot.place)) c.setup-setup.ensures in
    let station = c.in_ok-station.ensures
    ∙ (ap (λ (M : Museum). escaped (station_text M c.station.result)) c.setup-setup.ensures
    ∙ ap (λ s. escaped (station_text S s)) c.station.ensures) in
    c.in_ok-format.ensures.ok
    ∙ (joined _ _ _ _ _ _ _
    ∙ same_values _ _ (decimal new.spot.entry) _ _ _ _ _ _ _ _ _ _ thing c.in_ok-day.ensures
    place c.in_ok-containers.ensures station (ap decimal c.n-n.ensures))
