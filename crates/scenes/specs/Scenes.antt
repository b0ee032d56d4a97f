-- The scenes as rows of steps: what each plays, in the order of its code.
use Rattle.std.specs.Prelude.{ℕ, List, [], ◌∷◌, ◌++◌, replicate}
use Rattle.stage.specs.Rows.{Step, head_end_submits, head_end_hears_nothing, head_end_hears, head_end_calls_restart, head_end_made_anew, cabinet_hears, cabinet_answers, cabinet_restarts, cabinet_made_anew, line_loses}
use Rattle.text.specs.Quoted.{bytes_of}

-- the opening on the line passes, and so does its reply
abbrev opening_passes : List Step
opening_passes = cabinet_hears ∷ head_end_hears ∷ []

-- the order on the line passes, the application answers it, and the reply passes
abbrev order_passes : List ℕ → List Step
order_passes reply = cabinet_hears ∷ cabinet_answers reply ∷ head_end_hears ∷ []

abbrev pub accident : List Step
accident =
    (head_end_submits (bytes_of "open-17") ∷ opening_passes)
    ++ order_passes (bytes_of "opened-17")
    ++ (head_end_made_anew ∷ head_end_submits (bytes_of "close-18") ∷ opening_passes)
    ++ order_passes (bytes_of "closed-18")

abbrev pub lost_reply : List Step
lost_reply =
    (head_end_submits (bytes_of "open-17") ∷ opening_passes)
    ++ (cabinet_hears ∷ cabinet_answers (bytes_of "opened-17") ∷ line_loses ∷ head_end_hears_nothing ∷ [])
    ++ (cabinet_hears ∷ head_end_hears ∷ [])

abbrev pub cabinet_restart : List Step
cabinet_restart =
    (head_end_submits (bytes_of "open-17") ∷ opening_passes)
    ++ (line_loses ∷ cabinet_restarts ∷ head_end_hears_nothing ∷ cabinet_hears ∷ head_end_hears_nothing ∷ [])
    ++ (head_end_submits (bytes_of "open-18") ∷ opening_passes)
    ++ order_passes (bytes_of "opened-18")

abbrev pub five_orders : List Step
five_orders =
    (head_end_submits (bytes_of "open-17") ∷ opening_passes)
    ++ order_passes (bytes_of "opened-17")
    ++ (head_end_submits (bytes_of "close-18") ∷ order_passes (bytes_of "closed-18"))
    ++ (head_end_submits (replicate 246 84) ∷ order_passes (replicate 246 116))
    ++ (head_end_submits (bytes_of "open-20") ∷ order_passes (bytes_of "opened-20"))
    ++ (head_end_submits (bytes_of "?") ∷ order_passes [])

abbrev pub dead_line : List Step
dead_line =
    (head_end_submits (bytes_of "open-17") ∷ line_loses ∷ head_end_hears_nothing ∷ line_loses ∷ head_end_hears_nothing ∷ [])
    ++ (head_end_submits (bytes_of "open-18") ∷ opening_passes)
    ++ (line_loses ∷ head_end_hears_nothing ∷ line_loses ∷ head_end_hears_nothing ∷ [])

abbrev pub restart_in_opening : List Step
restart_in_opening =
    (head_end_submits (bytes_of "open-17") ∷ head_end_calls_restart ∷ opening_passes)
    ++ (head_end_submits (bytes_of "open-18") ∷ opening_passes)
    ++ order_passes (bytes_of "opened-18")

abbrev pub restart_in_order : List Step
restart_in_order =
    (head_end_submits (bytes_of "open-17") ∷ opening_passes)
    ++ (head_end_calls_restart ∷ order_passes (bytes_of "opened-17"))
    ++ (head_end_submits (bytes_of "open-18") ∷ opening_passes)
    ++ order_passes (bytes_of "opened-18")

abbrev pub made_anew : List Step
made_anew =
    (head_end_submits (bytes_of "open-17") ∷ opening_passes)
    ++ (head_end_made_anew ∷ order_passes (bytes_of "opened-17"))
    ++ (head_end_submits (bytes_of "open-18") ∷ cabinet_made_anew ∷ opening_passes)
    ++ order_passes (bytes_of "opened-18")

abbrev pub slow_cabinet : List Step
slow_cabinet =
    (head_end_submits (bytes_of "open-17") ∷ opening_passes)
    ++ (cabinet_hears ∷ head_end_hears_nothing ∷ [])
    ++ (head_end_submits (bytes_of "close-18") ∷ opening_passes)
    ++ order_passes (bytes_of "opened-17")
