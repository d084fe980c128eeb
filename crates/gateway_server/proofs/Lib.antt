mod ServingSteps
