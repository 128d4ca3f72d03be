mod ClientPlans
