use Rattle.std.specs.Prelude.{ℕ, List, codes, decimal}
use Rattle.std.proofs.Common.{◌≡◌, ◌++◌, ap, sym, string_bytes, ◌∙◌}
use Rattle.std.proofs.lemmas.List.{append_assoc}
use Rattle.table_core.specs.FaultTexts.{heading_text}
use Rattle.table_core.proofs.printed.fault_texts.add_heading.Goals as goal

joined : (a b c d e : List ℕ) → a ++ (b ++ (c ++ (d ++ e))) ≡ a ++ b ++ c ++ d ++ e
joined a b c d e =
    sym (append_assoc (a ++ b ++ c) d e ∙ append_assoc (a ++ b) c (d ++ e)
    ∙ append_assoc a b (c ++ (d ++ e)))

line : (old a b c name e fault : List ℕ) → a ++ b ++ c ++ name ++ e ≡ fault
    → old ++ (a ++ (b ++ (c ++ (name ++ e)))) ≡ old ++ fault
line old a b c name e fault is = ap (λ text. old ++ text) (joined a b c name e ∙ is)

pub returns-in_ok-write-in-NearHeading : goal.returns-in_ok-write-in-NearHeading
returns-in_ok-write-in-NearHeading c =
    c.in_ok-write-in-NearHeading.ensures.bytes
    ∙ line (string_bytes c.args.text.now) (codes "fault table NearHeading column ")
    (decimal c.in-NearHeading.field) (codes ": nearly '") c.name-name.result.now (codes "'\n")
    (heading_text c.args.fault)
    (ap (λ name. codes "fault table NearHeading column " ++ decimal c.in-NearHeading.field
    ++ codes ": nearly '" ++ name ++ codes "'\n") c.name-name.ensures
    ∙ ap heading_text (sym c.in-NearHeading.is))

pub returns-in_ok-write-in-TwiceHeading : goal.returns-in_ok-write-in-TwiceHeading
returns-in_ok-write-in-TwiceHeading c =
    c.in_ok-write-in-TwiceHeading.ensures.bytes
    ∙ line (string_bytes c.args.text.now) (codes "fault table TwiceHeading column ")
    (decimal c.in-TwiceHeading.field) (codes ": '") c.name-name-in-TwiceHeading.result.now
    (codes "' a second time\n") (heading_text c.args.fault)
    (ap (λ name. codes "fault table TwiceHeading column " ++ decimal c.in-TwiceHeading.field
    ++ codes ": '" ++ name ++ codes "' a second time\n") c.name-name-in-TwiceHeading.ensures
    ∙ ap heading_text (sym c.in-TwiceHeading.is))
