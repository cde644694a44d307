-- The packets of phases behind others, and how many packets there are.
use Rattle.std.proofs.Common.{◌≡◌, ◌≤◌, ℕ, ◌+◌, Bool, true, false, Option, Some, None, List, [], ◌∷◌, ◌++◌, length, add-zero, refl, sym, ap, ◌∙◌, arith}
use Rattle.std.proofs.lemmas.List.{append-nil, append_assoc}
use Rattle.std.specs.Prelude.{if◌then◌else◌, is_none, option_map, option_to_list}
use Rattle.mr_base.specs.Heads.{cause_of}
use Rattle.mr_base.specs.declared.head_error.HeadError.{HeadError}
use Rattle.mr_lines.specs.declared.skip.Skip.{Skip}
use Rattle.mr_load.specs.Dues.{Due, due_of, dues_by}
use Rattle.mr_load.specs.Items.{Content, contents_of, items_by, numbered}
use Rattle.mr_load.specs.Laws.{EveryItem}
use Rattle.mr_load.specs.Loading.{items_in, skip_of, cause_number}
use Rattle.mr_load.specs.Made.{Sent, packet_of, flow_of}
use Rattle.mr_load.proofs.Rows.{numbered_both}
use Rattle.mr_scenario.specs.declared.scenario.Given.{Given}
use Rattle.mr_scenario.specs.declared.scenario.Item.{Item}
use Rattle.mr_scenario.specs.declared.scenario.Phase.{Phase}

pub items_in_append : (ps qs : List Phase) → items_in (ps ++ qs) ≡ items_in ps ++ items_in qs
items_in_append [] qs = refl
items_in_append (p ∷ ps) qs = ap (λ (is : List Item). p.items ++ is) (items_in_append ps qs) ∙ sym (append_assoc p.items (items_in ps) (items_in qs))

-- the packets of phases behind others
pub from_append : (C : Given → List Content) (lane k : ℕ) (before : List Item) (ps qs : List Phase)
    → dues_by C lane k before (ps ++ qs) ≡ dues_by C lane k before ps ++ dues_by C lane (k + length ps) (before ++ items_in ps) qs
from_append C lane k before [] qs = rw (append-nil before, add-zero k) refl
from_append C lane k before (p ∷ ps) qs =
    let number : k + 1 + length ps ≡ k + length (p ∷ ps) = omega arith in
    let first : List Due = numbered (due_of k) C lane (items_by C lane before + 1) p.items in
    let rest : List Due = dues_by C lane (k + 1) (before ++ p.items) ps in
    ap (λ (ds : List Due). first ++ ds) (from_append C lane (k + 1) (before ++ p.items) ps qs)
    ∙ ap (λ (is : List Item). first ++ (rest ++ dues_by C lane (k + 1 + length ps) is qs)) (append_assoc before p.items (items_in ps))
    ∙ ap (λ (j : ℕ). first ++ (rest ++ dues_by C lane j (before ++ items_in (p ∷ ps)) qs)) number
    ∙ sym (append_assoc first rest (dues_by C lane (k + length (p ∷ ps)) (before ++ items_in (p ∷ ps)) qs))

by_cause : (o : Option HeadError) (p : Sent) (skip : HeadError → Skip) → length (if is_none o then p ∷ [] else []) + length (option_to_list (option_map skip o)) ≡ 1
by_cause None p skip = refl
by_cause (Some e) p skip = refl

one_content : (i : Item) (n : ℕ) (c : Content) → length (packet_of i n c) + length (skip_of i n c) ≡ 1
one_content i n None = refl
one_content i n (Some bs) = by_cause (cause_of bs) (record { index = n; flow = flow_of i.dev bs }) (λ e. record { lane = i.lane; index = n; cause = cause_number e })

-- every item is a packet or a skip
pub both_items : (C : Given → List Content) (lane n : ℕ) (is : List Item) → length (numbered packet_of C lane n is) + length (numbered skip_of C lane n is) ≡ items_by C lane is
both_items C lane n is = numbered_both packet_of skip_of one_content C lane n is

pub every_item : EveryItem
every_item files lane n is = both_items (contents_of files) lane n is

-- no more packets than items
pub packets_most : (C : Given → List Content) (lane n : ℕ) (is : List Item) → length (numbered packet_of C lane n is) ≤ items_by C lane is
packets_most C lane n is = omega (arith, both_items C lane n is)
