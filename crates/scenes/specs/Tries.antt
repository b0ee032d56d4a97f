-- What the number of tries is to each scene, and the telegrams of those that state 2, which are as they were when 2 was the default. Read `Tries`.
use Rattle.std.specs.Prelude.{ℕ, ◌≤◌, List, [], ◌∷◌, ◌++◌, ◌≡◌, replicate}
use Rattle.initiator.specs.Records.{closed_of}
use Rattle.link_rules.specs.Rules.{Permitted, most_tries, room, turned}
use Rattle.responder.specs.Records.{blank_of}
use Rattle.scenes.specs.Scenes as scene
use Rattle.stage.specs.Rows.{Step, played, telegrams}
use Rattle.stage.specs.Stages.{scene_link, no_tally, fresh_with}
use Rattle.stage.specs.declared.state.Stage.{Stage}
use Rattle.text.specs.Quoted.{bytes_of}

-- every number of tries from the least on gives the same telegrams, and orders, hand-ups and outcomes are counted alike: the scene keeps
-- the default
pub record SameFrom (least : ℕ) (row : List Step) : Type 0 where
  pub same :
      (m n : ℕ) → least ≤ m → m ≤ most_tries → least ≤ n → n ≤ most_tries
      → (telegrams m row ≡ telegrams n row) × ((played m row).tally ≡ (played n row).tally)

-- no other number of tries gives these telegrams: the scene states it
pub record CountsOn (number : ℕ) (row : List Step) : Type 0 where
  pub only : (n : ℕ) → Permitted n → telegrams n row ≡ telegrams number row → n ≡ number

-- both ends made with document 01's "default 2", and nothing on the line: where every scene began that stated no number
abbrev pub fresh_before : Stage
fresh_before =
    record {
      initiator = closed_of scene_link 2;
      responder = blank_of (turned scene_link);
      line = replicate room 0;
      len = 0;
      tally = no_tally;
    }

-- ---- the telegrams before, from the stored run

abbrev opening : List ℕ
opening = 0x10 ∷ 0x05 ∷ 0x02 ∷ 0x6C ∷ 0x73 ∷ 0x16 ∷ []

abbrev opening_reply : List ℕ
opening_reply = 0x10 ∷ 0x02 ∷ 0x05 ∷ 0x00 ∷ 0x07 ∷ 0x16 ∷ []

abbrev open_17 : List ℕ
open_17 = (0x68 ∷ 0x0A ∷ 0x0A ∷ 0x68 ∷ 0x05 ∷ 0x02 ∷ 0x5C ∷ bytes_of "open-17") ++ (0xAA ∷ 0x16 ∷ [])

abbrev open_18 : List ℕ
open_18 = (0x68 ∷ 0x0A ∷ 0x0A ∷ 0x68 ∷ 0x05 ∷ 0x02 ∷ 0x5C ∷ bytes_of "open-18") ++ (0xAB ∷ 0x16 ∷ [])

abbrev opened_18 : List ℕ
opened_18 = (0x68 ∷ 0x0C ∷ 0x0C ∷ 0x68 ∷ 0x02 ∷ 0x05 ∷ 0x08 ∷ bytes_of "opened-18") ++ (0x20 ∷ 0x16 ∷ [])

abbrev none : List ℕ
none = []

-- after each step, in the order of the scene
abbrev pub cabinet_restart_before : List (List ℕ)
cabinet_restart_before =
    (opening ∷ opening_reply ∷ open_17 ∷ [])
    ++ (none ∷ none ∷ open_17 ∷ none ∷ none ∷ [])
    ++ (opening ∷ opening_reply ∷ open_18 ∷ [])
    ++ (none ∷ opened_18 ∷ none ∷ [])

abbrev pub dead_line_before : List (List ℕ)
dead_line_before =
    (opening ∷ none ∷ opening ∷ none ∷ none ∷ [])
    ++ (opening ∷ opening_reply ∷ open_18 ∷ [])
    ++ (none ∷ open_18 ∷ none ∷ none ∷ [])

-- ---- each scene

pub record Tries : Type 0 where
  pub accident : SameFrom 1 scene.accident
  pub lost_reply : SameFrom 2 scene.lost_reply
  pub five_orders : SameFrom 1 scene.five_orders
  pub restart_in_opening : SameFrom 1 scene.restart_in_opening
  pub restart_in_order : SameFrom 1 scene.restart_in_order
  pub made_anew : SameFrom 1 scene.made_anew
  pub cabinet_restart : CountsOn 2 scene.cabinet_restart
  pub dead_line : CountsOn 2 scene.dead_line
  pub slow_cabinet : CountsOn 1 scene.slow_cabinet
  -- the two that count on 2 begin, since they state it, on the stage of before, and have the telegrams of before
  pub begins : fresh_with 2 ≡ fresh_before
  pub cabinet_restart_stays : telegrams 2 scene.cabinet_restart ≡ cabinet_restart_before
  pub dead_line_stays : telegrams 2 scene.dead_line ≡ dead_line_before
