-- Lemmas on the log of a desk.
use Rattle.std.proofs.Common.{◌≡◌, ℕ, ◌==◌, ◌++◌, ◌∷◌, [], Bool, false, true, List, Option, Result}
use Rattle.std.proofs.Common.{Ok, Err, Some, cond, inl, inr, refl, ap, sym, ◌∙◌, append-nil}
use Rattle.std.proofs.Common.{None, append_assoc, arith, take}
use Rattle.std.specs.Io.KnownBytes.{Appends}
use Rattle.std.proofs.KnownBytes.{Appends-nil, Appends-trans}
use Rattle.std.proofs.lemmas.Bool.Decides.{nat_tests}
use Rattle.nest_core.specs.Museum.{IsMuseum, Museum, station_name_of}
use Rattle.nest_core.specs.StationName.{is_station_name}
use Rattle.nest_core.proofs.Positions.{passes_at}
use Rattle.posting_core.specs.declared.entry.Entry.{Entry}
use Rattle.posting_core.specs.declared.message.Message.{Message}
use Rattle.register_store.specs.Holdings.{Holding}
use Rattle.register_store.specs.declared.fault.ReadFault.{ReadFault}
use Rattle.hub_core.specs.declared.hub.answer.Arrival.{Arrival}
use Rattle.hub_core.specs.declared.line.request.Line.{Line}
use Rattle.hub_core.specs.declared.line.request.Request.{Request}
use Rattle.hub_core.specs.declared.line.request.Request.TheVariants.{Ask, Scan}
use Rattle.hub_core.specs.LineText.{sent_by}
use Rattle.hub_core.specs.StandsFor.{State, StandsFor}
use Rattle.desk_core.specs.declared.line_fault.LineFault.{LineFault}
use Rattle.desk_core.specs.declared.line_fault.LineFault.TheVariants.{Hub, Log}
use Rattle.desk_core.specs.Logs.{LogStops, log_line, log_text}
use Rattle.desk_core.specs.Sent.{is_own, own_arrival, passed}
use Rattle.desk_core.specs.Sessions.{Leaves}

pub log_join : (S : Museum) (s : ℕ) (A B : List Arrival)
    → log_text S s (A ++ B) ≡ log_text S s A ++ log_text S s B
log_join S s [] B = refl
log_join S s (r ∷ A) B =
    ap (λ (t : List ℕ). cond (r.station == s) (log_line S r) [] ++ t) (log_join S s A B)
    ∙ sym (append_assoc (cond (r.station == s) (log_line S r) []) (log_text S s A)
    (log_text S s B))

same_station : (s : ℕ) → (s == s) ≡ true
same_station s = grind (arith, nat_tests)

-- the log of one arrival of the station
pub log_own : (S : Museum) (r : Arrival) → log_text S r.station (r ∷ []) ≡ log_line S r
log_own S r = let same = same_station r.station in rw same (append-nil (log_line S r))

-- the line of a message under the station's next number
pub own_logged : (T S : Museum) (depth : ℕ) (O : List Entry) (A : List Arrival) (s : ℕ)
    (m : Message) (n : ℕ) → T ≡ S → n ≡ (own_arrival S depth O A s m).n
    → log_line T (record { station = s; n = n; message = m })
    ≡ log_text S s (own_arrival S depth O A s m ∷ [])
own_logged T S depth O A s m n museum number =
    ap (λ (q : Museum). log_line q (record { station = s; n = n; message = m })) museum
    ∙ (ap (λ k. log_line S (record { station = s; n = k; message = m })) number
    ∙ sym (log_own S (own_arrival S depth O A s m)))

other_logged : (S : Museum) (s : ℕ) (r : Arrival) (b : Bool) → (r.station == s) ≡ b
    → log_text S s (cond b [] (r ∷ [])) ≡ []
other_logged S s r true e = refl
other_logged S s r false e = ap (λ b. cond b (log_line S r) [] ++ []) e

-- no arrival of another station is logged
log_sent : (S : Museum) (s : ℕ) (station : Option ℕ) (request : Request)
    → log_text S s (cond (is_own s station) [] (sent_by station request)) ≡ []
log_sent S s None request = refl
log_sent S s (Some t) (Ask code) = by_test (t == s)
  where
    by_test : (b : Bool) → log_text S s (cond b [] []) ≡ []
    by_test true = refl
    by_test false = refl
log_sent S s (Some t) (Scan n m) = other_logged S s (record { station = t; n = n; message = m })
    (t == s) refl

-- a JSON line that is passed on isn't logged
pub log_passed : (S : Museum) (s : ℕ) (r : Result Line ReadFault) → log_text S s (passed s r) ≡ []
log_passed S s (Err fault) = refl
log_passed S s (Ok line) = log_sent S s line.station line.request

-- the names of a setup are names of stations
pub named : (S : Museum) (s : ℕ) (name : List ℕ) → IsMuseum S → station_name_of S s ≡ Some name
    → is_station_name name ≡ true
named S s name is found = passes_at is_station_name S.stations s name is.names found

-- the log stopped, at any fault
pub stops : {Q : Type 0} {holding : Q → Holding} {hub : State Q} {O : List Entry}
    {A : List Arrival} {l l' : Option (List ℕ)} {past text : List ℕ} (sent : List Arrival)
    (fault : LineFault) → LogStops holding hub O A l l' past text
    → Leaves holding hub O A sent l l' past text fault
stops sent (Hub fault) left = inl left
stops sent Log left = left

-- nothing was logged
pub none_logged : {Q : Type 0} {holding : Q → Holding} {hub : State Q} {O : List Entry}
    {A : List Arrival} (sent : List Arrival) (text : List ℕ) (l : Option (List ℕ))
    (fault : LineFault) → StandsFor holding hub O A
    → Leaves holding hub O A sent l l [] text fault
none_logged sent text l fault st = stops sent fault (record {
  k = 0;
  logged = Appends-nil l;
  stands = st;
})

-- the same fault, with the log of the lines before
pub leaves_after : {Q : Type 0} (holding : Q → Holding) (hub : State Q) (O : List Entry)
    (A sent : List Arrival) (a b c : Option (List ℕ)) (past text : List ℕ) (fault : LineFault)
    → Appends a b past → Leaves holding hub O A sent b c [] text fault
    → Leaves holding hub O A sent a c past text fault
leaves_after holding hub O A sent a b c past text fault before left = by_fault fault left
  where
    log_stops : LogStops holding hub O A b c [] text → LogStops holding hub O A a c past text
    log_stops s = record {
      k = s.k;
      logged = Appends-trans a b c past (take s.k text) before s.logged;
      stands = s.stands;
    }

    by_fault : (fault : LineFault) → Leaves holding hub O A sent b c [] text fault
        → Leaves holding hub O A sent a c past text fault
    by_fault (Hub fault) (inl s) = inl (log_stops s)
    by_fault (Hub fault) (inr s) = inr (record {
      logged = Appends-trans a b c past text before s.logged;
      stands = s.stands;
    })
    by_fault Log s = log_stops s
