-- Worked rows of the routing machine.
use Rattle.std.specs.Prelude.{ℕ, Some, None, Result, Ok, Err, List, [], ◌∷◌, ◌++◌}
use Rattle.std.specs.Prelude.{map, codes, replicate}
use Rattle.mr_base.specs.declared.errno.Errno.{Errno}
use Rattle.mr_base.specs.declared.numbers.Addr.{Addr}
use Rattle.mr_model.specs.Deeds.{Deed, Asked, Received}
use Rattle.mr_model.specs.declared.message.Told.{Told}
use Rattle.mr_model.specs.declared.message.Kind.TheVariants as kind
use Rattle.mr_model.specs.declared.reply.Reply.TheVariants as answer
use Rattle.mr_model.specs.declared.request.Request.{Request}
use Rattle.mr_model.specs.declared.request.Request.TheVariants as request
use Rattle.smc_conf.specs.Spelled.{spelled}
use Rattle.smc_conf.specs.WorkedConfigurations.{text, office}
use Rattle.smc_conf.specs.declared.conf.Conf.{Conf}
use Rattle.smc_conf.specs.declared.stop.ConfError.{ConfError}
use Rattle.smc_core.specs.Driving.{Line, Start, Command, Answer, Replied, Reported, smc}
use Rattle.smc_core.specs.Machine.{Machine}
use Rattle.smc_core.specs.Smc.{first_machine}
use Rattle.smc_words.specs.Words.{Word}

-- the configuration that a text spells
abbrev pub conf_in : Result Conf ConfError → List Conf
conf_in (Ok c) = c ∷ []
conf_in (Err e) = []

abbrev pub names : List Word
names = codes "eth0" ∷ codes "eth1" ∷ codes "eth2" ∷ []

abbrev pub office_machine : Machine
office_machine = first_machine names (conf_in (spelled office))

abbrev pub addr : ℕ → Addr
addr n = record { 0 = n }

-- a good call, and one that is refused
abbrev pub good : Request → Deed
good r = Asked r answer.Good

abbrev pub refused : Request → Errno → Deed
refused r e = Asked r (answer.Refused e)

abbrev pub add_vif : ℕ → ℕ → Request
add_vif v device = request.AddVif (record { vif = v; flags = 8; local = device })

-- these thresholds, and 0 for the vifs behind them
abbrev pub add_mfc : Addr → Addr → ℕ → List ℕ → ℕ → Request
add_mfc src dst parent ttls behind =
    request.AddMfc (record {
      src = src;
      dst = dst;
      parent = parent;
      ttls = ttls ++ replicate behind 0;
    })

abbrev pub del_mfc : Addr → Addr → ℕ → Request
del_mfc src dst parent = request.DelMfc (record { src = src; dst = dst; parent = parent })

abbrev pub no_cache : ℕ → Addr → Addr → Told
no_cache v src dst = record { kind = kind.NoCache; vif = v; src = src; dst = dst }

abbrev pub wrong_vif : ℕ → Addr → Addr → Told
wrong_vif v src dst = record { kind = kind.WrongVif; vif = v; src = src; dst = dst }

-- the answers of the kernel
abbrev pub yes_reply : Answer
yes_reply = Replied answer.Good

abbrev pub refusal : Errno → Answer
refusal e = Replied (answer.Refused e)

abbrev pub told : Told → Answer
told report = Reported (Some report)

abbrev pub told_none : Answer
told_none = Reported None

abbrev pub host : Addr
host = addr 0x0A000007

abbrev pub sender : Addr
sender = addr 0x0A000009

abbrev pub news : Addr
news = addr 0xEF010101

abbrev pub film : Addr
film = addr 0xEF020304

-- The office: it starts, and polls up to four reports, of which there is one.
abbrev pub office_day : List Deed
office_day =
    good request.Init ∷ good (add_vif 0 1) ∷ good (add_vif 1 2) ∷ good (add_vif 2 3)
    ∷ good (add_mfc sender news 0 (0 ∷ 1 ∷ 1 ∷ []) 29)
    ∷ Received (Some (no_cache 2 (addr 0x0A000207) film))
    ∷ good (add_mfc (addr 0x0A000207) film 2 (0 ∷ 1 ∷ []) 30) ∷ Received None ∷ []

abbrev pub office_answers : List Answer
office_answers =
    yes_reply ∷ yes_reply ∷ yes_reply ∷ yes_reply ∷ yes_reply
    ∷ told (no_cache 2 (addr 0x0A000207) film) ∷ yes_reply ∷ told_none ∷ []

-- An interface that is no device, one that is not enabled, rules and groups of such, and two rules
-- for one packet.
abbrev pub city : List ℕ
city = text (
    codes "phyint eth0 enable ttl-threshold 3"
    ∷ codes "phyint eth9 enable"
    ∷ codes "phyint eth1 disable"
    ∷ codes "phyint eth2 enable"
    ∷ codes "mgroup from eth1 group 239.1.1.1"
    ∷ codes "mgroup from eth0 source 10.0.0.9 group 239.0.0.0/8"
    ∷ codes "mgroup from eth1 group 239.1.1.1"
    ∷ codes "mroute from eth0 source 10.0.0.9 group 239.1.1.1 to eth2"
    ∷ codes "mroute from eth1 group 239.0.0.0/8 to eth0"
    ∷ codes "mroute from eth0 group 239.2.0.0/16 to eth2"
    ∷ codes "mroute from eth0 group 239.0.0.0/8 to eth0"
    ∷ codes "mroute from eth0 source 10.0.0.9 group 239.1.1.1 to eth2 eth0 eth1"
    ∷ [])

abbrev pub later : List ℕ
later = text (codes "phyint eth1 enable" ∷ codes "mroute from eth1 group 239.1.1.1 to eth1" ∷ [])

abbrev pub city_machine : Machine
city_machine = first_machine names (conf_in (spelled city) ++ conf_in (spelled later))

-- the machine of the city, started
abbrev pub started : Machine
started = (smc city_machine (Start ∷ []) []).machine

-- what is said to these commands, where each reply is good
abbrev pub says : List (List ℕ) → List ℕ
says lines = (smc started (map Command lines) []).text

-- what is done for these lines, with these answers, and what is said
abbrev pub does : List Line → List Answer → List Deed
does lines answers = (smc started lines answers).deeds

abbrev pub answers_to : List Line → List Answer → List ℕ
answers_to lines answers = (smc started lines answers).text

-- A packet of the film that had no route is reported, and its route is learned.
abbrev pub film_told : Told
film_told = no_cache 0 host film

abbrev pub learn_film : List Answer
learn_film = told film_told ∷ yes_reply ∷ []

abbrev pub film_learned : List Deed
film_learned =
    Received (Some film_told) ∷ good (add_mfc host film 0 (0 ∷ 1 ∷ []) 30) ∷ []

-- the removals of the film's route and of the news' route
abbrev pub film_goes : Deed
film_goes = good (del_mfc host film 0)

abbrev pub news_goes : Deed
news_goes = good (del_mfc sender news 0)

-- Two interfaces and no rule: a rule is added, shown, and another one removed in vain.
abbrev pub session_machine : Machine
session_machine =
    first_machine names
    (conf_in (spelled (text (codes "phyint eth0 enable" ∷ codes "phyint eth1 enable" ∷ []))))

abbrev pub session : List Line
session =
    Start ∷ Command (codes "add eth0 10.0.0.9 239.1.1.1 eth1") ∷ Command (codes "show")
    ∷ Command (codes "remove eth0 239.9.9.9") ∷ Command (codes "kill") ∷ []

abbrev pub session_says : List ℕ
session_says = text (
    codes "ok"
    ∷ codes "ok"
    ∷ codes "route eth0 10.0.0.9 239.1.1.1 eth1"
    ∷ codes "ok"
    ∷ codes "error no such route"
    ∷ codes "ok"
    ∷ [])

-- A packet of the news, whose exact rule makes no route for reports, is served by a wider rule.
abbrev pub learn_news : List Answer
learn_news = told (no_cache 0 sender news) ∷ yes_reply ∷ []

abbrev pub news_learned : List Deed
news_learned =
    Received (Some (no_cache 0 sender news)) ∷ good (add_mfc sender news 0 [] 32) ∷ []

abbrev pub city_routes : List ℕ
city_routes = text (
    codes "route eth0 10.0.0.9 239.1.1.1 eth2,eth0,eth1"
    ∷ codes "route eth1 * 239.0.0.0/8 eth0"
    ∷ codes "route eth0 * 239.2.0.0/16 eth2"
    ∷ codes "route eth0 * 239.0.0.0/8 eth0"
    ∷ [])

-- the same, with the film's learned route, which stands twice
abbrev pub film_shown_twice : List ℕ
film_shown_twice =
    city_routes
    ++ codes "learned eth0 10.0.0.7 239.2.3.4\nlearned eth0 10.0.0.7 239.2.3.4\nok\n"

-- the same, with the film's learned route
abbrev pub film_shown : List ℕ
film_shown = city_routes ++ codes "learned eth0 10.0.0.7 239.2.3.4\nok\n"
